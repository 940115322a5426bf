-- What the C values stand for: each answer as the answer of document 01 that it gives.
-- Assumes nothing.
use Rattle.std.specs.Prelude.{Bool, not, [], ◌∷◌, ℕ, eqb}
use Rattle.definitions.specs.Areas.{Areas}
use Rattle.definitions.specs.Refusals.{Report}
use Rattle.definitions.specs.Outcome.{Maps, Outcome}
use Rattle.definitions.specs.MapEntries as Entries
use Rattle.faults.specs.declared.Fault.{Fault}
use Rattle.compact.specs.declared.Counts.{Counts}
use Rattle.cadnohal.specs.declared.Answer.{Answer}
use Rattle.cadnohal.specs.declared.AdjustedAnswer.{AdjustedAnswer}
use Rattle.cadnohal.specs.declared.RangeAnswer.{RangeAnswer}

-- the number of the boundary's form; it goes up by one where a function's form or meaning changes
abbrev pub abi : ℕ
abi = 2

-- 0 is `KeepUnused::No`, any other word is Yes
abbrev pub keep_word : ℕ → Bool
keep_word w = not (eqb w 0)

-- a number and a place, with counts 0
abbrev pub placed : ℕ → ℕ → ℕ → Answer
placed nr a h =
    record {
      number = nr;
      area = a;
      «record» = h;
      types = 0;
      constants = 0;
      overrides = 0;
      globals = 0;
      expressions = 0;
      members = 0;
      components = 0;
    }

-- what the check reports
abbrev pub answer_to : Report → Answer
answer_to r = placed r.number r.area r.record_number

-- a refusal
abbrev pub refused : Fault → Answer
refused f = placed f.number f.area f.record

-- counts, with number and place 0
abbrev pub counted : Counts → Answer
counted n =
    record {
      number = 0;
      area = 0;
      «record» = 0;
      types = n.types;
      constants = n.constants;
      overrides = n.overrides;
      globals = n.globals;
      expressions = n.expressions;
      members = n.members;
      components = n.components;
    }

-- the outcome that an answer, the areas and the maps after it make
abbrev pub outcome_in : Answer → Areas → Maps → Outcome
outcome_in r s p =
    record {
      number = r.number;
      area = r.area;
      record_number = r.record;
      counts = r.types ∷ r.constants ∷ r.overrides ∷ r.globals ∷ r.expressions ∷ r.members ∷ r.components ∷ [];
      areas = s;
      maps = p;
    }

-- the answers of the map entries
abbrev pub adjusted_in : AdjustedAnswer → Entries.Adjusted
adjusted_in r = record { number = r.number; handle = r.handle }

abbrev pub ranged_in : RangeAnswer → Entries.Ranged
ranged_in r = record { number = r.number; start = r.start; end = r.end }
