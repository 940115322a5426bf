-- `at_once::passes` meets its contract. Assumes nothing.
use Rattle.std.proofs.Common.{arith}
use Rattle.arena.specs.Lent.{areas_in}
use Rattle.faults.proofs.AtOnce.{no-fault}
use Rattle.faults.proofs.at_once.passes.Goals as goal

pub returns : goal.returns
returns c e = no-fault (areas_in c.args.m.now.areas) (λ a l. c.loop-area.invariant a (omega arith)) (c.mentions_pass.ensures e)
