-- What the ten words of an answer stand for. Assumes nothing.
use Rattle.std.proofs.Common.{◌≡◌, refl, Result, Ok, Err}
use Rattle.definitions.specs.Areas.{Areas}
use Rattle.definitions.specs.Outcome.{Maps}
use Rattle.faults.specs.declared.Fault.{Fault}
use Rattle.compact.specs.declared.Counts.{Counts}
use Rattle.compact.specs.Answer.{outcome_with}
use Rattle.cadnohal.specs.declared.Answer.{Answer}
use Rattle.cadnohal.specs.Boundary.{counted, refused, outcome_in}

-- the answer to a result of `compact`
abbrev pub answer_of : Result Counts Fault → Answer
answer_of (Ok n) = counted n
answer_of (Err f) = refused f

-- ten words make the outcome that the answer makes
pub words-make : (r : Result Counts Fault) (s : Areas) (p : Maps) → outcome_in (answer_of r) s p ≡ outcome_with r s p
words-make (Ok n) s p = refl
words-make (Err f) s p = refl
