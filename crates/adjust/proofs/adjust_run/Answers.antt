-- `adjust::adjust_run` meets its contract.
-- Assumes nothing.
use native.Mathlib.Omega.{arith}
use Rattle.adjust.proofs.Stores.{all-stored}
use Rattle.adjust.proofs.adjust_run.Invariants.{at-end, turn}
use Rattle.adjust.proofs.adjust_run.Goals as goal

pub loop-k-preserved : goal.loop-k-preserved
loop-k-preserved c =
    let a = c.args in
    let l = c.loop-k in
    turn a.own.now a.pool.now a.shift.from a.n (omega arith) l.pool a.shift.to l.k _ (omega arith) (omega arith) c.run_word.ensures l.invariant

pub returns : goal.returns
returns c =
    let a = c.args in
    let l = c.loop-k in
    all-stored _ _ _ _ _ _ (at-end a.own.now a.pool.now a.shift.from a.n l.k (omega arith)) l.invariant
