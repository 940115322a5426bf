-- `trace::roots::mark_those` meets its contract.
-- Assumes nothing.
use Rattle.definitions.specs.Areas.{numbered}
use Rattle.arena.specs.Lent.{areas_in}
use Rattle.trace.proofs.Counting.{root-none, root-more, root-passed}
use Rattle.trace.proofs.roots.mark_those.Goals as goal
use Rattle.trace.proofs.roots.mark_those.Goals.{then-is_root, else-is_root}

pub loop-i-init : goal.loop-i-init
loop-i-init c = root-none _ _ _ _

pub loop-i-preserved : goal.loop-i-preserved
loop-i-preserved c =
    let s = areas_in c.args.m.now in
    let g = numbered c.args.area in
    elim c.if-is_root.branch [
      | then-is_root w ↦ rw w.marks-is (root-more s c.args.b g c.loop-i.i c.loop-i.invariant w.mark.ensures (cc) (cc))
      | else-is_root w ↦ rw w.marks-is (root-passed s c.args.b g c.loop-i.i c.loop-i.invariant (cc))
    ]
