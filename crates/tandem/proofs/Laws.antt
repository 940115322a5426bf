-- What the visits that are left tell, and a whole pass.
-- Assumes nothing.
use mathlib.Core.Path.{◌≡◌, sym, ap, subst}
use Prim.Native.Nat.{ℕ, ◌+◌, ◌≤◌, ◌<◌}
use native.Mathlib.Omega.{arith}
use lib.ListN.{length, take}
use lib.Seq.{take_all}
use Rattle.definitions.specs.Areas.{Areas, at, types, expressions, size}
use Rattle.definitions.specs.Order.{visits, order}
use Rattle.definitions.proofs.Least.{◌∈◌}
use Rattle.definitions.proofs.Tandem.{visits-among, visits-types, visits-length}

module _ (s : Areas) where
  types-le : (t e t' e' : ℕ) → visits s t e ≡ visits s t' e' → t' ≤ t
  types-le t e t' e' q =
      let f : t < t' → t < t = λ h. visits-among s t e (at types t) (subst (λ l. at types t ∈ l) (sym q) (visits-types s t' e' t h)) in
      grind (arith, f)

  -- the visits tell how many types and how many expressions are left
  pub left-once : (t e t' e' : ℕ) → visits s t e ≡ visits s t' e' → (t ≡ t') × (e ≡ e')
  left-once t e t' e' q = omega (arith, simp visits-length at (ap length q), types-le t e t' e' q, types-le t' e' t e (sym q))

  -- a budget of as many visits as are left makes them all
  pub whole-pass : (t e budget : ℕ) → t + e ≤ budget → take budget (visits s t e) ≡ visits s t e
  whole-pass t e budget l = take_all budget (visits s t e) (rw (visits-length s t e) l)

  -- of a module's own sizes, the whole order
  pub whole-order : (budget : ℕ) → size s types + size s expressions ≤ budget
      → take budget (visits s (size s types) (size s expressions)) ≡ order s
  unfolding order
  whole-order budget l = whole-pass (size s types) (size s expressions) budget l
