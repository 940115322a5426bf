-- The public contract allows one outcome, and tells which verdict the code's is. Assumes nothing.
use Rattle.std.proofs.Common.{◌≡◌, arith, Result}
use Rattle.definitions.specs.Refusals as R
use Rattle.definitions.specs.Refusals.{reported}
use Rattle.std.specs.Prelude.{⊤}
use Rattle.faults.specs.declared.Fault.{Fault}
use Rattle.faults.specs.Checking.{report_of, verdict_of}

-- `check`
pub verdict-once : {w : R.Report} (r q : Result ⊤ Fault) → report_of r ≡ w → report_of q ≡ w → r ≡ q
verdict-once r q e f = grind arith

-- the verdict that was reported
pub verdict-told : (r : Result ⊤ Fault) (v : R.Verdict) → report_of r ≡ reported v → verdict_of r ≡ v
verdict-told r v e = grind arith
