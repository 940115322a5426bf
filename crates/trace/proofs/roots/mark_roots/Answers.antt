-- `trace::roots::mark_roots` meets its contract.
-- Assumes nothing.
use Rattle.arena.specs.Lent.{areas_in}
use Rattle.trace.proofs.Counting.{roots-no, roots-yes}
use Rattle.trace.proofs.roots.mark_roots.Goals as goal

pub returns-then-keep : goal.returns-then-keep
returns-then-keep c =
    roots-yes (areas_in c.args.m.now) c.args.b c.args.n c.mark_mentions.ensures c.mark_those.ensures c.mark_those-then-keep.ensures c.mark_those-then-keep-2.ensures
    c.mark_those-then-keep-3.ensures c.if-keep.true

pub returns-else-keep : goal.returns-else-keep
returns-else-keep c = roots-no (areas_in c.args.m.now) c.args.b c.args.n c.mark_mentions.ensures c.mark_those.ensures c.if-keep.false
