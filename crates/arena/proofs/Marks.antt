-- Words that stand for the definitions' marks.
-- Assumes nothing.
use mathlib.Core.List.{List, []}
use Prim.Native.Nat.{ℕ}
use Rattle.definitions.specs.Areas.{Areas, size}
use Rattle.definitions.specs.Sweep.{has}
use Rattle.arena.specs.HandleSet.{bases, bit, Cleared}
use Rattle.arena.specs.Marks.{Marks}

-- emptied words stand for no marks
pub marks-none : (s : Areas) (vs ws : List ℕ) → Cleared vs ws → Marks s ws []
unfolding has
marks-none s vs ws c = record { marked = λ x t. c.none (bit (bases (size s)) x) }
