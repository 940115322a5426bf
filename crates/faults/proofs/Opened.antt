-- What opens the definitions that several contracts cite. Assumes nothing.
use Rattle.std.proofs.Common.{ℕ}
use Rattle.definitions.specs.Areas.{numbered}
use Rattle.definitions.specs.Roots.{mention}
use Rattle.definitions.specs.Refusals.{of_module, inside}
use Rattle.faults.specs.Checking.{ok4, ok6, ok_at, owner_of, looks_at, places_in}

-- the places of each number, and what it asks of one
unfoldable pub places : ℕ
unfolding ok_at ok4 ok6 owner_of looks_at places_in numbered of_module mention inside
places = 0
