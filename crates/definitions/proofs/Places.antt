-- Kept elements are numbered from 0 without a gap in their old order.
-- Assumes nothing.
use mathlib.Core.Path.{◌≡◌, refl, subst}
use mathlib.Core.Bool.{Bool, true, false, cond}
use mathlib.Core.List.{List}
use Prim.Native.Nat.{ℕ, zero, suc, ◌+◌, ◌≤◌, ◌<◌}
use native.Mathlib.Nat.{le_refl}
use native.Mathlib.Numerals.{add-one}
use native.Mathlib.Omega.{arith}
use lib.Dec.{T}
use Rattle.definitions.specs.Lists.{total}
use Rattle.definitions.specs.Areas.{Arena, Elem, N, at}
use Rattle.definitions.specs.Sweep.{has}
use Rattle.definitions.specs.Numbering.{is_kept, new_handle, rank}
use Rattle.definitions.proofs.ListLaws.{total_mono, total-share, unrank}
use Rattle.definitions.proofs.Least.{◌∈◌}

-- no more of the first h records pass than there are
pub rank-le : (p : ℕ → Bool) (h : ℕ) → rank p h ≤ h
unfolding rank total
rank-le p zero = le_refl zero
rank-le p (suc h) = go (p h) (rank-le p h)
  where
    go : (b : Bool) → rank p h ≤ h → cond b (rank p h + 1) (rank p h) ≤ suc h
    go true l = omega arith
    go false l = omega arith

module _ (m : List Elem) (a : Arena) where
  pub new-kept : (h : ℕ) → at a h ∈ m → new_handle (is_kept m a) h ≡ rank (is_kept m a) h
  unfolding new_handle
  new-kept h t = go (has m (at a h)) t
    where
      go : (b : Bool) → T b → cond b (rank (is_kept m a) h) N ≡ rank (is_kept m a) h
      go true u = refl
      go false u = absurd u

  pub rank_mono : (h k : ℕ) → h ≤ k → rank (is_kept m a) h ≤ rank (is_kept m a) k
  unfolding rank
  rank_mono h k l = total_mono (is_kept m a) (λ _. 1) k h l

  pub rank_below : (h k : ℕ) → at a h ∈ m → h < k → rank (is_kept m a) h < rank (is_kept m a) k
  unfolding rank
  rank_below h k t l = subst (λ j. j ≤ rank (is_kept m a) k) (add-one (rank (is_kept m a) h)) (total-share (is_kept m a) (λ _. 1) h k t l)

  -- the old order
  pub new-mono : (h k : ℕ) → at a h ∈ m → at a k ∈ m → h < k → new_handle (is_kept m a) h < new_handle (is_kept m a) k
  new-mono h k i j l = rw (new-kept h i, new-kept k j) (rank_below h k i l)

  -- no gap: each number below the count is the place of a kept record
  pub record Placed (n i : ℕ) : Type 0 where
    pub from : ℕ
    pub from-lt : from < n
    pub from-kept : at a from ∈ m
    pub from-rank : rank (is_kept m a) from ≡ i

  pub no_gap : (n i : ℕ) → i < rank (is_kept m a) n → Placed n i
  unfolding rank
  no_gap n i l =
      let r = unrank (is_kept m a) n i l in
      record { from = r.at; from-lt = r.at_lt; from-kept = r.at-passes; from-rank = r.at-rank }
