-- Marks as bits: what marking some elements, one visit and some visits make of the set of marked bits, for any words.
-- Assumes nothing.
use Rattle.std.specs.Prelude.{◌≡◌, Option, None, Some, Bool, false, ◌&&◌, ◌||◌, cond, List, [], ◌∷◌, ◌++◌, map, ℕ, length, eqb, ltb}
use Rattle.definitions.specs.Lists.{always, count_up, select}
use Rattle.definitions.specs.Areas.{Areas, Arena, Elem, at}
use Rattle.definitions.specs.References.{references}
use Rattle.definitions.specs.Roots.{mention, is_named, root_constant, named_override}
use Rattle.definitions.specs.Order.{with_behind}
use Rattle.arena.specs.HandleSet.{bit, member, room}
use Rattle.arena.specs.declared.ExpressionHandle.{ExpressionHandle}
use Rattle.arena.specs.declared.handle_set.Bases.{Bases}
use Rattle.arena.specs.declared.sizes.Sizes.{Sizes}

-- is the number in the list ?
unfoldable pub among : List ℕ → ℕ → Bool
among [] j = false
among (i ∷ is) j = eqb j i || among is j

-- a set of bits with those of the list put in, as far as there is room for n
unfoldable pub added : ℕ → List ℕ → (ℕ → Bool) → ℕ → Bool
added n is p j = p j || (among is j && ltb j n)

-- the bits of some elements and of all that is marked with them
unfoldable pub bits_of : Areas → Bases → List Elem → List ℕ
bits_of s b xs = map (bit b) (with_behind s xs)

-- an init that may be there
abbrev pub init_of : Option ExpressionHandle → List Elem
init_of None = []
init_of (Some h) = at Arena.expressions h.0 ∷ []

-- words that hold just the bits of a set, and are as many as before
pub record Holds (before : List ℕ) (p : ℕ → Bool) (after : List ℕ) : Type 0 where
  pub as_long : length after ≡ length before
  pub holds : (j : ℕ) → member after j ≡ p j

-- the words after some bits were put in
abbrev pub Put : List ℕ → List ℕ → List ℕ → Type 0
Put is before after = Holds before (added (room before) is (member before)) after

-- the words after marking some elements with all that is marked with them
abbrev pub Marked : Areas → Bases → List Elem → List ℕ → List ℕ → Type 0
Marked s b xs before after = Put (bits_of s b xs) before after

-- one visit: a marked element marks what it refers to
unfoldable pub visit_bits : Areas → Bases → ℕ → (ℕ → Bool) → Elem → ℕ → Bool
visit_bits s b n p x = cond (p (bit b x)) (added n (bits_of s b (references s x)) p) p

-- the words after one visit
abbrev pub Visited : Areas → Bases → Elem → List ℕ → List ℕ → Type 0
Visited s b x before after = Holds before (visit_bits s b (room before) (member before) x) after

-- some visits in turn
unfoldable pub sweep_bits : Areas → Bases → ℕ → List Elem → (ℕ → Bool) → ℕ → Bool
sweep_bits s b n [] p = p
sweep_bits s b n (x ∷ xs) p = sweep_bits s b n xs (visit_bits s b n p x)

-- the words after them
abbrev pub Swept : Areas → Bases → List Elem → List ℕ → List ℕ → Type 0
Swept s b xs before after = Holds before (sweep_bits s b (room before) xs (member before)) after

-- which records of an arena are roots by themselves: of constants in both modes, of the others with Yes
unfoldable pub root_in : Areas → Arena → ℕ → Bool
root_in s Arena.types = is_named s
root_in s Arena.constants = root_constant s
root_in s Arena.overrides = named_override s
root_in s Arena.globals = always
root_in s Arena.expressions = λ h. false

-- the roots among the first n records of an arena
unfoldable pub those_in : Areas → Arena → ℕ → List Elem
those_in s a n = map (at a) (select (root_in s a) (count_up 0 n))

-- the roots for a flag, as many as the sizes say: `roots`, for those of the module
unfoldable pub roots_in : Areas → Bool → Sizes → List Elem
roots_in s keep n =
    (map (mention s) (count_up 0 n.mentions) ++ those_in s Arena.constants n.constants)
    ++ cond keep
    (those_in s Arena.globals n.globals ++ those_in s Arena.overrides n.overrides
    ++ those_in s Arena.types n.types) []
