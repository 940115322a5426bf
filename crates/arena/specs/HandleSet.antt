-- A set of elements as bits of 64-bit words: the bit that each element has, and what is in the set.
-- Assumes nothing.
use Rattle.std.specs.Prelude.{◌≡◌, Bool, false, List, ℕ, ◌+◌, ◌*◌, ◌/◌, ◌%◌, ◌^◌, min, length, get_or, eqb, ltb}
use Rattle.definitions.specs.Areas.{N, Arena, types, constants, overrides, globals, expressions, Elem, at}
use Rattle.arena.specs.declared.handle_set.Bases.{Bases}

-- from how many records each arena has: where its bits begin, the sum of the counts before it, and where the last
-- arena's end; no sum passes N
abbrev pub bases : (Arena → ℕ) → Bases
bases n =
    record {
      constants = n types;
      overrides = min (n types + n constants) N;
      globals = min (n types + n constants + n overrides) N;
      expressions = min (n types + n constants + n overrides + n globals) N;
      end = min (n types + n constants + n overrides + n globals + n expressions) N;
    }

-- how many they have together
abbrev pub records : (Arena → ℕ) → ℕ
records n = n types + n constants + n overrides + n globals + n expressions

-- where an arena's bits begin
abbrev pub base : Bases → Arena → ℕ
base b types = 0
base b constants = b.constants
base b overrides = b.overrides
base b globals = b.globals
base b expressions = b.expressions

-- the bit of an element
abbrev pub bit : Bases → Elem → ℕ
bit b (at a h) = base b a + h

-- digit k of a word
abbrev pub digit : ℕ → ℕ → Bool
digit w k = eqb (w / 2 ^ k % 2) 1

-- is i in the set ? No number past the words' end is
unfoldable pub member : List ℕ → ℕ → Bool
member ws i = digit (get_or ws (i / 64) 0) (i % 64)

-- how many bits the words have
abbrev pub room : List ℕ → ℕ
room ws = 64 * length ws

-- the set after i was put in: i is in it where the words reach, and every other number just when it was
pub record Inserted (before : List ℕ) (i : ℕ) (after : List ℕ) : Type 0 where
  pub as_long : length after ≡ length before
  pub put : member after i ≡ ltb i (room before)
  pub others : (j : ℕ) → (j ≡ i → ⊥) → member after j ≡ member before j

-- the set emptied
pub record Cleared (before after : List ℕ) : Type 0 where
  pub as_long : length after ≡ length before
  pub none : (j : ℕ) → member after j ≡ false
