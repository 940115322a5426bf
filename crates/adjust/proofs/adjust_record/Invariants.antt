-- After k turns k words of the record are stored, and `rest` has the slots of those left.
-- Assumes nothing.
use mathlib.Core.Path.{◌≡◌, sym, ap, ap₂, ◌∙◌}
use mathlib.Core.List.{◌∷◌}
use Prim.Native.Nat.{ℕ, suc, ◌+◌, ◌-◌, ◌/◌, ◌%◌, ◌≤◌, ◌<◌}
use native.Mathlib.Nat.{sub-zero}
use native.Mathlib.Numerals.{add-one}
use native.Mathlib.Omega.{arith}
use lib.ListN.{get_or, set}
use lib.Seq.{sets}
use Rattle.definitions.specs.Areas.{Words}
use Rattle.definitions.specs.Slots.{Slot}
use Rattle.definitions.specs.Outcome.{Maps}
use Rattle.slots.specs.Codes.{decoded, unpacked, words_from}
use Rattle.arena.specs.Lent.{maps_in}
use Rattle.adjust.specs.Rewrite.{adjusted_by, record_from}
use Rattle.adjust.proofs.Stores.{Storing, none-stored, one-stored, all-stored}
use Rattle.adjust.proofs.adjust_record.Given as goal

module _ (p : Maps) (b : ℕ) (old : Words) (from n shape : ℕ) where
  -- the record, adjusted
  abbrev pub whole : Words
  whole = record_from p b (words_from old from) 0 (unpacked shape n)

  -- its words from word k on; rest has their slots
  abbrev pub left : ℕ → ℕ → Words
  left rest k = record_from p b (words_from old from) k (unpacked rest (n - k))

  pub record Partway (new : Words) (to rest k : ℕ) : Type 0 where
    pub storing : Storing old new to k (left rest k) whole

  pub at-start : (to : ℕ) → Partway old to shape 0
  at-start to = record { storing = none-stored _ _ _ _ (rw (sub-zero n)) }

  pub turn : (new : Words) (to rest k : ℕ) {s : Slot} {v : ℕ} → to ≤ from → k < n → s ≡ decoded (rest % 16) → v ≡ adjusted_by p b s (get_or new (from + k) 0)
      → Partway new to rest k → Partway (set new (to + k) v) to (rest / 16) (k + 1)
  unfolding record_from unpacked
  turn new to rest k h l e q w =
      let m : n - k ≡ suc (n - (k + 1)) = omega arith in
      let r : left rest k ≡ adjusted_by p b (decoded (rest % 16)) (get_or old (from + k) 0) ∷ left (rest / 16) (k + 1) = rw (m, add-one k) in
      record {
        storing =
            one-stored old new to k _ (left rest k) (left (rest / 16) (k + 1)) whole
            (r ∙ ap (λ x. x ∷ left (rest / 16) (k + 1)) (sym (q ∙ ap₂ (adjusted_by p b) e (w.storing.ahead (from + k) (omega arith))))) w.storing;
      }

  pub at-end : (new : Words) (to rest k : ℕ) → k ≡ n → Partway new to rest k → new ≡ sets old to whole
  unfolding record_from unpacked
  at-end new to rest k e w =
      let m : n - k ≡ 0 = omega arith in
      all-stored old new to k (left rest k) whole (rw m) w.storing

abbrev pub invariant-loop-k : goal.invariant-loop-k
invariant-loop-k l =
    Partway (maps_in l.maps) l.start l.initial.ws l.shift.from l.n l.shape l.ws l.shift.to l.rest l.k
