-- What the outcome is by the verdict, and demand 1's half that the definitions owe: a refusal changes no word.
-- Assumes nothing.
use mathlib.Core.Path.{◌≡◌, refl, ap}
use mathlib.Core.Bool.{Bool}
use mathlib.Core.List.{[], ◌∷◌}
use Prim.Native.Nat.{ℕ}
use lib.Dec.{T}
use Rattle.definitions.specs.Areas.{Areas}
use Rattle.definitions.specs.Sweep.{kept}
use Rattle.definitions.specs.Refusals.{Verdict, accepted, refused, passes, check}
use Rattle.definitions.specs.Outcome.{Maps, Outcome, lengths, outcome, outcome_of}

-- a verdict that passes is `accepted`
pub accepted-is : (v : Verdict) → T (passes v) → v ≡ accepted
unfolding passes
accepted-is accepted t = refl
accepted-is (refused nr a h) t = absurd t

-- an accepted module has the outcome of what the sweep keeps
pub outcome-accepted : (s : Areas) (p : Maps) (keep : Bool) → T (passes (check s (lengths p))) → outcome s p keep ≡ outcome_of s p (kept s keep) accepted
unfolding outcome
outcome-accepted s p keep t = ap (outcome_of s p (kept s keep)) (accepted-is (check s (lengths p)) t)

-- a refused one reports number, area and record, counts nothing, and every area and map is as it was
pub record Refused (s : Areas) (p : Maps) (nr a h : ℕ) (r : Outcome) : Type 0 where
  pub its-number : r.number ≡ nr
  pub its-area : r.area ≡ a
  pub its-record : r.record_number ≡ h
  pub no-counts : r.counts ≡ 0 ∷ 0 ∷ 0 ∷ 0 ∷ 0 ∷ 0 ∷ 0 ∷ []
  pub same-areas : r.areas ≡ s
  pub same-maps : r.maps ≡ p

pub refusal-changes-nothing : (s : Areas) (p : Maps) (keep : Bool) (nr a h : ℕ) → check s (lengths p) ≡ refused nr a h → Refused s p nr a h (outcome s p keep)
unfolding outcome outcome_of
refusal-changes-nothing s p keep nr a h e =
    rw e (record { its-number = refl; its-area = refl; its-record = refl; no-counts = refl; same-areas = refl; same-maps = refl })
