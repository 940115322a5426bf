-- Each contract that is no equation with the answer itself allows one outcome.
-- Assumes nothing.
use mathlib.Core.Path.{◌≡◌, ap, sym, ◌∙◌}
use Prim.Native.Nat.{ℕ}
use lib.ListN.{get_or}
use Rattle.definitions.specs.Areas.{Words, Areas}
use Rattle.definitions.specs.Outcome.{Maps}
use Rattle.definitions.specs.MapEntries.{adjust, range}
use Rattle.cadnohal.specs.declared.Answer.{Answer}
use Rattle.cadnohal.specs.declared.AdjustedAnswer.{AdjustedAnswer}
use Rattle.cadnohal.specs.declared.RangeAnswer.{RangeAnswer}
use Rattle.cadnohal.specs.Boundary.{outcome_in, adjusted_in, ranged_in}

-- `cadnohal_adjust`
pub adjust-once : (map : Words) (h : ℕ) {r q : AdjustedAnswer} → adjusted_in r ≡ adjust map h → adjusted_in q ≡ adjust map h → r ≡ q
adjust-once map h a b = λ i.
    let e = a ∙ sym b in
    record { number = ap (λ x. x.number) e i; handle = ap (λ x. x.handle) e i }

-- `cadnohal_adjust_range`
pub adjust-range-once : (map : Words) (start end : ℕ) {r q : RangeAnswer} → ranged_in r ≡ range map start end → ranged_in q ≡ range map start end → r ≡ q
adjust-range-once map start end a b = λ i.
    let e = a ∙ sym b in
    record { number = ap (λ x. x.number) e i; start = ap (λ x. x.start) e i; end = ap (λ x. x.end) e i }

-- `cadnohal_compact`: two answers with all lent words that make the same outcome are one
pub boundary-once : (a b : Answer) (s s' : Areas) (p p' : Maps) → outcome_in a s p ≡ outcome_in b s' p' → (a ≡ b) × (s ≡ s') × (p ≡ p')
boundary-once a b s s' p p' e = (words, ap (λ o. o.areas) e, ap (λ o. o.maps) e)
  where
    words : a ≡ b
    words = λ i.
        let l = ap (λ o. o.counts) e in
        record {
          number = ap (λ o. o.number) e i;
          area = ap (λ o. o.area) e i;
          «record» = ap (λ o. o.record_number) e i;
          types = ap (λ c. get_or c 0 0) l i;
          constants = ap (λ c. get_or c 1 0) l i;
          overrides = ap (λ c. get_or c 2 0) l i;
          globals = ap (λ c. get_or c 3 0) l i;
          expressions = ap (λ c. get_or c 4 0) l i;
          members = ap (λ c. get_or c 5 0) l i;
          components = ap (λ c. get_or c 6 0) l i;
        }
