-- `places::held_at` meets its contract. Assumes nothing.
use Rattle.std.proofs.Common.{arith}
use Rattle.definitions.specs.Areas.{numbered}
use Rattle.definitions.specs.Refusals.{held_at}
use Rattle.arena.specs.Lent.{areas_in}
use Rattle.faults.proofs.Records.{held_words, held_run}
use Rattle.faults.proofs.places.held_at.Goals as goal

pub returns : goal.returns
unfolding held_at
returns c =
    let h = held_run (areas_in c.args.m.now.areas) (numbered c.args.area) c.args.i c.size.result in
    grind (arith, held_words, h)
