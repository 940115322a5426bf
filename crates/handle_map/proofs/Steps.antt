-- One turn of the numbering: the map and the count of one record more.
-- Assumes nothing.
use mathlib.Core.Path.{◌≡◌, refl, sym, ap, ◌∙◌}
use mathlib.Core.Bool.{Bool, true, false, cond}
use mathlib.Core.List.{[], ◌∷◌, ◌++◌, append_assoc}
use Prim.Native.Nat.{ℕ, suc, ◌+◌, ◌≤◌, ◌<◌}
use native.Mathlib.Numerals.{add-one}
use native.Mathlib.Omega.{arith}
use lib.ListN.{length, get_or, set, drop}
use lib.Dec.{eqb}
use lib.Seq.{drop-cons, set_at}
use Rattle.definitions.specs.Areas.{Words, N}
use Rattle.definitions.specs.Lists.{total, gather}
use Rattle.definitions.specs.Numbering.{rank, new_handle, map_up_to}
use Rattle.definitions.proofs.Counts.{map-length}
use Rattle.definitions.proofs.Places.{rank-le}
use Rattle.handle_map.specs.FromSet.{mapped}

-- 1 more where it is kept
counted : (b : Bool) (k : ℕ) → cond b (k + 1) k ≡ k + cond b 1 0
counted true k = refl
counted false k = omega arith

-- the choice by the number is the choice by the mark
picked : (b : Bool) (k : ℕ) → cond b k N ≡ cond (eqb (cond b 1 0) 0) N k
picked true k = refl
picked false k = refl

-- a mark as a number
pub at_most_one : (b : Bool) (one : ℕ) → one ≡ cond b 1 0 → one ≤ 1
at_most_one true one e = omega arith
at_most_one false one e = omega arith

module _ (p : ℕ → Bool) where
  rank_step : (h : ℕ) → rank p (h + 1) ≡ rank p h + cond (p h) 1 0
  unfolding rank total
  rank_step h = rw (add-one h) (counted (p h) (rank p h))

  place_is : (h : ℕ) → new_handle p h ≡ cond (eqb (cond (p h) 1 0) 0) N (rank p h)
  unfolding new_handle
  place_is h = picked (p h) (rank p h)

  -- writing the place of h makes the map one longer
  map-step : (old : Words) (h v : ℕ) → h < length old → v ≡ new_handle p h → set (mapped p h old) h v ≡ mapped p (h + 1) old
  unfolding map_up_to gather
  map-step old h v l e =
      ap (λ r. set (map_up_to p h ++ r) h v) (drop-cons old h 0 l)
      ∙ set_at (map_up_to p h) (get_or old h 0) (drop (suc h) old) v h (map-length p h)
      ∙ ap (λ w. map_up_to p h ++ w ∷ drop (suc h) old) e
      ∙ sym (append_assoc (map_up_to p h) (new_handle p h ∷ []) (drop (suc h) old))
      ∙ ap (λ k. map_up_to p k ++ drop k old) (sym (add-one h))

  -- what the loop keeps
  pub record Numbered (old new : Words) (next h : ℕ) : Type 0 where
    pub next-is : next ≡ rank p h
    pub map_is : new ≡ mapped p h old

  pub at-start : (old : Words) → Numbered old old 0 0
  unfolding rank map_up_to total gather
  at-start old = record { next-is = refl; map_is = refl }

  -- no more are kept than there are
  pub next_le : (old new : Words) (next h : ℕ) → Numbered old new next h → next ≤ h
  next_le old new next h i = omega (arith, i.next-is, rank-le p h)

  -- the word written and the number added are those of record h
  pub turn : (old new : Words) (next h one v : ℕ) → Numbered old new next h → h < length old
      → one ≡ cond (p h) 1 0 → v ≡ cond (eqb one 0) N next → Numbered old (set new h v) (next + one) (h + 1)
  turn old new next h one v i b o e =
      let k : v ≡ new_handle p h = e ∙ ap (λ m. cond (eqb m 0) N next) o ∙ ap (cond (eqb (cond (p h) 1 0) 0) N) i.next-is ∙ sym (place_is h) in
      record {
        next-is = ap (λ m. m + one) i.next-is ∙ ap (λ m. rank p h + m) o ∙ sym (rank_step h);
        map_is = ap (λ r. set r h v) i.map_is ∙ map-step old h v b k;
      }
