-- `at_once::arena_passes` meets its contract. Assumes nothing.
use Rattle.std.proofs.Common.{arith}
use Rattle.rules.proofs.Laws.{size_in_lem}
use Rattle.faults.specs.Checking.{places_in}
use Rattle.faults.proofs.Arenas.{room_fits}
use Rattle.faults.proofs.at_once.arena_passes.Goals as goal

pub returns : goal.returns
unfolding places_in
returns c e = ((λ n i a b l. grind (arith, size_in_lem)), grind (arith, size_in_lem, room_fits))
