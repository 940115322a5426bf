-- Shapes: the slots of a record's body, four bits a word, the first word lowest.
-- Assumes nothing.
use Rattle.std.specs.Prelude.{cond, List, [], ◌∷◌, ℕ, zero, suc, ◌+◌, ◌*◌, ◌/◌, ◌%◌, eqb, get_or, take, drop}
use Rattle.definitions.specs.Areas.{Words, types, constants, overrides, globals, expressions}
use Rattle.definitions.specs.Areas as areas
use Rattle.slots.specs.declared.Arena.{Arena}
use Rattle.slots.specs.declared.Arena.TheVariants.{Types, Constants, Overrides, Globals, Expressions}
use Rattle.slots.specs.declared.Slot as declared
use Rattle.slots.specs.declared.Slot.TheVariants.{Unused, Free, Below, Must, May, Start, Count}
use Rattle.definitions.specs.Slots.{Slot, unused, free, below, must, may, start, count}

-- the slots that a code of four bits can stand for, from code 0 on
unfoldable pub codes : List Slot
codes =
    unused
    ∷ free
    ∷ must types
    ∷ must constants
    ∷ must overrides
    ∷ must expressions
    ∷ may expressions
    ∷ start
    ∷ count
    ∷ below 2
    ∷ below 4
    ∷ below 5
    ∷ below 34
    ∷ []

-- what a code stands for
unfoldable pub decoded : ℕ → Slot
decoded c = get_or codes c unused

-- the code of a slot; 13 for one that no record has
unfoldable pub code_of : Slot → ℕ
code_of unused = 0
code_of free = 1
code_of (below n) = cond (eqb n 2) 9 (cond (eqb n 4) 10 (cond (eqb n 5) 11 (cond (eqb n 34) 12 13)))
code_of (must types) = 2
code_of (must constants) = 3
code_of (must overrides) = 4
code_of (must globals) = 13
code_of (must expressions) = 5
code_of (may types) = 13
code_of (may constants) = 13
code_of (may overrides) = 13
code_of (may globals) = 13
code_of (may expressions) = 6
code_of start = 7
code_of count = 8

-- the shape of some slots
unfoldable pub packed : List Slot → ℕ
packed [] = 0
packed (l ∷ ls) = code_of l + 16 * packed ls

-- the first n slots of a shape
unfoldable pub unpacked : ℕ → ℕ → List Slot
unpacked w zero = []
unpacked w (suc n) = decoded (w % 16) ∷ unpacked (w / 16) n

-- the words of a record that starts at a place
abbrev pub words_from : Words → ℕ → ℕ → ℕ
words_from ws at k = get_or ws (at + k) 0

-- which arena of document 01 the code's is
abbrev pub arena_of : Arena → areas.Arena
arena_of Types = types
arena_of Constants = constants
arena_of Overrides = overrides
arena_of Globals = globals
arena_of Expressions = expressions

-- which slot of document 01 the code's is
abbrev pub slot_of : declared.Slot → Slot
slot_of Unused = unused
slot_of Free = free
slot_of (Below n) = below n
slot_of (Must a) = must (arena_of a)
slot_of (May a) = may (arena_of a)
slot_of Start = start
slot_of Count = count

-- the count of a record's run, by the words it has; 0 without one
unfoldable pub span_in : areas.Arena → (ℕ → ℕ) → ℕ
span_in types f = cond (eqb (f 0) 3) (f 3) 0
span_in constants f = 0
span_in overrides f = 0
span_in globals f = 0
span_in expressions f = cond (eqb (f 0) 8) (f 3) 0

-- its run in a pool
unfoldable pub run_in : areas.Arena → (ℕ → ℕ) → Words → Words
run_in a f pool = take (span_in a f) (drop (f 2) pool)
