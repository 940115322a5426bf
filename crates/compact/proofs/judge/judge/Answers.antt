-- `judge` meets its contract: the verdict, and the marking where it accepts.
-- Assumes nothing.
use Rattle.std.proofs.lemmas.Result.{err_from_is_err_and}
use Rattle.compact.proofs.Close.{accepts, judges-accepted, judges-refused}
use Rattle.compact.proofs.judge.judge.Goals as goal

pub returns-in_err-check : goal.returns-in_err-check
returns-in_err-check c =
    let r = err_from_is_err_and c.from_residual.result c.from_residual.ensures.1 in
    rw (r.1, r.2) (judges-refused _ _ c.check.ensures c.in_err-check.was)

pub mark-requires-clause-accepts : goal.mark-requires-clause-accepts
mark-requires-clause-accepts c = accepts _ _ c.check.ensures c.in_ok-check.was

pub returns : goal.returns
returns c = judges-accepted _ _ c.check.ensures c.in_ok-check.was c.mark.ensures
