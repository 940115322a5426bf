-- "two words, start and length, before the tag; they are carried along": a kept record's span and tag after a pass.
-- Assumes nothing.
use mathlib.Core.Path.{◌≡◌, refl, ap, ◌∙◌}
use mathlib.Core.Bool.{Bool}
use mathlib.Core.List.{List}
use Prim.Native.Nat.{ℕ, zero, suc, ◌+◌, ◌<◌}
use native.Mathlib.Omega.{arith}
use lib.Dec.{T}
use lib.ListN.{length, get_or}
use lib.Seq.{get_or-append-add}
use Rattle.definitions.specs.Areas.{Areas, Arena, Elem, at, size, word}
use Rattle.definitions.specs.Slots.{body, carried, free, layout, slots, tail, tail_of, unused}
use Rattle.definitions.specs.Sweep.{kept}
use Rattle.definitions.specs.Refusals.{check, passes}
use Rattle.definitions.specs.Numbering.{is_kept, moved, rank}
use Rattle.definitions.specs.Records.{adjusted, kept_areas}
use Rattle.definitions.proofs.Least.{◌∈◌}
use Rattle.definitions.proofs.Accepted.{facts}
use Rattle.definitions.proofs.Kept.{inside-lt, kept-inside}
use Rattle.definitions.proofs.Places.{new-kept}
use Rattle.definitions.proofs.Reading.{after, body-length, carried_same, word-stays}

-- every word of the tail is free
tail-free : (j : ℕ) → j < length tail → get_or tail j unused ≡ free
tail-free zero l = refl
tail-free (suc zero) l = refl
tail-free (suc (suc zero)) l = refl
tail-free (suc (suc (suc j))) l = absurd (omega arith)

module _ (s : Areas) (m : List Elem) (a : Arena) (h : ℕ) (i : at a h ∈ m) (l : h < size s a) where
  abbrev n : ℕ
  n = length (body a (word s a h))

  tail-word : (j : ℕ) → j < length tail → word (after s m) a (rank (is_kept m a) h) (n + j) ≡ word s a h (n + j)
  unfolding layout slots adjusted
  tail-word j b =
      word-stays s m a h i l (n + j) (omega (arith, body-length a (word s a h))) free
      (get_or-append-add (body a (word s a h)) tail j unused ∙ tail-free j b) refl

  tail-stays : tail_of (after s m) (at a (rank (is_kept m a) h)) ≡ tail_of s (at a h)
  unfolding tail_of
  tail-stays =
      let f : ℕ → ℕ = word (after s m) a (rank (is_kept m a) h) in
      let same : length (body a f) ≡ n = omega (arith, body-length a f, body-length a (word s a h)) in
      ap (λ k. carried f k tail) same ∙ carried_same f (word s a h) n n tail tail-word

-- a kept record's tail is the old record's tail
pub tail-kept : (s : Areas) (maps : List ℕ) (keep : Bool) → T (passes (check s maps)) → (x : Elem) → x ∈ kept s keep
    → tail_of (kept_areas s (kept s keep)) (moved (kept s keep) x) ≡ tail_of s x
unfolding moved
tail-kept s maps keep t (at a h) i =
    let m = kept s keep in
    ap (λ k. tail_of (after s m) (at a k)) (new-kept m a h i)
    ∙ tail-stays s m a h i (inside-lt s a h (kept-inside s (facts s maps t).sound keep (at a h) i))
