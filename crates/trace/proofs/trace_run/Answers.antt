-- `trace::trace_run` meets its contract.
-- Assumes nothing.
use Rattle.trace.proofs.Counting.{run-more}
use Rattle.trace.proofs.trace_run.Goals as goal

pub loop-h-preserved : goal.loop-h-preserved
loop-h-preserved c =
    run-more c.args.b _ c.args.run.now c.loop-h.h-index c.loop-h.invariant c.insert.ensures (cc) c.loop-h-test.true
