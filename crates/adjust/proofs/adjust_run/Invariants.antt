-- After k turns k words of the run are stored.
-- Assumes nothing.
use mathlib.Core.Path.{◌≡◌, sym, ap, ◌∙◌}
use mathlib.Core.List.{[], ◌∷◌, map}
use Prim.Native.Nat.{ℕ, suc, ◌+◌, ◌-◌, ◌≤◌, ◌<◌}
use native.Mathlib.Nat.{add-zero, sub-zero}
use native.Mathlib.Omega.{arith}
use lib.ListN.{length, get_or, take, drop, set}
use lib.Seq.{drop-cons}
use Rattle.definitions.specs.Areas.{Words}
use Rattle.definitions.specs.MapEntries.{lookup}
use Rattle.adjust.proofs.Stores.{Storing, one-stored}
use Rattle.adjust.proofs.adjust_run.Given as goal

module _ (own pool : Words) (from n : ℕ) where
  -- the run, adjusted
  abbrev pub whole : Words
  whole = map (lookup own) (take n (drop from pool))

  -- what is left of it after k words
  abbrev pub left : ℕ → Words
  left k = map (lookup own) (take (n - k) (drop (from + k) pool))

  pub at-start : left 0 ≡ whole
  at-start = rw (sub-zero n, add-zero from)

  pub at-end : (k : ℕ) → n ≤ k → left k ≡ []
  at-end k h = let z : n - k ≡ 0 = omega arith in rw z

  pub turn : from + n ≤ length pool → (new : Words) (to k v : ℕ) → to ≤ from → k < n → v ≡ lookup own (get_or new (from + k) 0)
      → Storing pool new to k (left k) whole → Storing pool (set new (to + k) v) to (k + 1) (left (k + 1)) whole
  turn fits new to k v h l e s =
      let m : n - k ≡ suc (n - (k + 1)) = omega arith in
      let i : from + (k + 1) ≡ suc (from + k) = omega arith in
      let q : left k ≡ lookup own (get_or pool (from + k) 0) ∷ left (k + 1) = rw (m, i, drop-cons pool (from + k) 0 (omega arith)) in
      one-stored pool new to k v (left k) (left (k + 1)) whole
      (q ∙ ap (λ w. w ∷ left (k + 1)) (sym (e ∙ ap (lookup own) (s.ahead (from + k) (omega arith))))) s

abbrev pub invariant-loop-k : goal.invariant-loop-k
invariant-loop-k l = Storing l.initial.pool l.pool l.shift.to l.k (left l.own l.initial.pool l.shift.from l.n l.k) (whole l.own l.initial.pool l.shift.from l.n)
