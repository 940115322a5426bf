-- `trace::roots::mark_mentions` meets its contract.
-- Assumes nothing.
use Rattle.arena.specs.Lent.{areas_in}
use Rattle.trace.proofs.Counting.{mention-none, mention-more}
use Rattle.trace.proofs.roots.mark_mentions.Goals as goal

pub loop-i-init : goal.loop-i-init
loop-i-init c = mention-none _ _ _

pub loop-i-preserved : goal.loop-i-preserved
loop-i-preserved c = mention-more (areas_in c.args.m.now) c.args.b c.loop-i.i c.loop-i.invariant c.mark.ensures (cc)
