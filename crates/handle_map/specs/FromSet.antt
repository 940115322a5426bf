-- Which records a set keeps: those whose bits are set.
-- Assumes nothing.
use Rattle.std.specs.Prelude.{Bool, List, ◌++◌, ℕ, ◌+◌, drop}
use Rattle.definitions.specs.Areas.{Words}
use Rattle.definitions.specs.Numbering.{map_up_to}
use Rattle.arena.specs.HandleSet.{member}

-- is record h of the arena whose bits begin at the base in the set ?
unfoldable pub in_set : List ℕ → ℕ → ℕ → Bool
in_set marks base h = member marks (base + h)

-- the map of the first n records, before the words that were there
abbrev pub mapped : (ℕ → Bool) → ℕ → Words → Words
mapped p n old = map_up_to p n ++ drop n old
