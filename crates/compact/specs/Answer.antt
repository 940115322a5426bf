-- The answer of `compact` as document 01's number, place and counts, with every lent word beside it.
-- Assumes nothing.
use Rattle.std.specs.Prelude.{◌≡◌, Bool, true, false, List, [], ◌∷◌, ℕ, Result, Ok, Err, is_ok}
use Rattle.definitions.specs.Areas.{Areas}
use Rattle.definitions.specs.Refusals.{check, passes}
use Rattle.definitions.specs.Outcome.{Maps, Outcome, lengths, outcome}
use Rattle.faults.specs.declared.Fault.{Fault}
use Rattle.compact.specs.declared.KeepUnused.{KeepUnused}
use Rattle.compact.specs.declared.KeepUnused.TheVariants.{No, Yes}
use Rattle.compact.specs.declared.Counts.{Counts}

-- `KeepUnused::Yes` is true
abbrev pub keep_of : KeepUnused → Bool
keep_of No = false
keep_of Yes = true

-- "The counts are the kept records of areas 0 to 6."
abbrev pub counts_of : Counts → List ℕ
counts_of n = n.types ∷ n.constants ∷ n.overrides ∷ n.globals ∷ n.expressions ∷ n.members ∷ n.components ∷ []

-- the outcome that an answer, the areas and the maps after it make
abbrev pub outcome_with : Result Counts Fault → Areas → Maps → Outcome
outcome_with (Ok n) s p = record { number = 0; area = 0; record_number = 0; counts = counts_of n; areas = s; maps = p }
outcome_with (Err f) s p =
    record {
      number = f.number;
      area = f.area;
      record_number = f.record;
      counts = 0 ∷ 0 ∷ 0 ∷ 0 ∷ 0 ∷ 0 ∷ 0 ∷ [];
      areas = s;
      maps = p;
    }

-- all that is promised: the answer tells whether the check passes, and with every lent word it is document 01's outcome
pub record Compacts (keep : Bool) (r : Result Counts Fault) (s : Areas) (p : Maps) (s' : Areas) (p' : Maps) : Type 0 where
  pub verdict : is_ok r ≡ passes (check s (lengths p))
  pub outcome-is : outcome_with r s' p' ≡ outcome s p keep
