-- The definitions' marks, a list of elements, and the words that stand for them.
-- Assumes nothing.
use Rattle.std.specs.Prelude.{◌≡◌, List, ℕ, T}
use Rattle.definitions.specs.Areas.{Areas, Elem, size}
use Rattle.definitions.specs.Sweep.{has}
use Rattle.definitions.specs.Refusals.{inside}
use Rattle.arena.specs.HandleSet.{bases, bit, member}

-- each element of the module is in the set just when it is marked
pub record Marks (s : Areas) (ws : List ℕ) (m : List Elem) : Type 0 where
  pub marked : (x : Elem) → T (inside s x) → member ws (bit (bases (size s)) x) ≡ has m x
