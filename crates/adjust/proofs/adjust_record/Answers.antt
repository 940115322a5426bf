-- `adjust::adjust_record` meets its contract.
-- Assumes nothing.
use native.Mathlib.Omega.{arith}
use Rattle.adjust.proofs.adjust_record.Invariants.{turn, at-end}
use Rattle.adjust.proofs.adjust_record.Goals as goal

pub loop-k-preserved : goal.loop-k-preserved
loop-k-preserved c =
    let l = c.loop-k in
    turn _ _ _ _ _ _ _ _ _ _ (omega arith) (omega arith) c.first.ensures c.adjust_slot.ensures l.invariant

pub returns : goal.returns
returns c = let l = c.loop-k in at-end _ _ _ _ _ _ _ _ _ _ (omega arith) l.invariant
