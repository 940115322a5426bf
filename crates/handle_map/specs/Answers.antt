-- Document 01, "Refusal numbers": the number and the values of each case of an answer
-- Assumes nothing.
use Rattle.std.specs.Prelude.{Bool, not, ℕ, eqb, Result, Ok, Err}
use Rattle.definitions.specs.Areas.{N}
use Rattle.definitions.specs.MapEntries as Entries
use Rattle.handle_map.specs.declared.NoHandle.{NoHandle}
use Rattle.handle_map.specs.declared.NoHandle.TheVariants.{PastEnd, Dropped}

-- "8 past the end, 9 on N"
abbrev pub number_of : NoHandle → ℕ
number_of PastEnd = 8
number_of Dropped = 9

-- "A refused adjust answers N"
abbrev pub adjusted_of : Result ℕ NoHandle → Entries.Adjusted
adjusted_of (Ok h) = record { number = 0; handle = h }
adjusted_of (Err e) = record { number = number_of e; handle = N }

-- "a refused range N..N"
abbrev pub ranged_of : Result (ℕ × ℕ) NoHandle → Entries.Ranged
ranged_of (Ok p) = record { number = 0; start = p.0; end = p.1 }
ranged_of (Err e) = record { number = number_of e; start = N; end = N }

-- a word of a map that is a handle
abbrev pub is_live : ℕ → Bool
is_live w = not (eqb w N)
