-- A `match` on a number: what holds at each key of an arm holds in the arm, and what holds in a range but for the keys of other arms holds there.
-- Assumes nothing.
use mathlib.Core.Path.{sym, subst}
use mathlib.Core.Bool.{Bool, true, false, ◌||◌}
use mathlib.Core.Logic.{⊎_elim}
use mathlib.Core.List.{List, [], ◌∷◌}
use Prim.Native.Nat.{ℕ, zero, suc, ◌+◌, ◌≤◌, ◌<◌}
use native.Mathlib.Nat.{eq-or-lt_of_le}
use native.Mathlib.Omega.{arith}
use lib.Dec.{T}
use mir.Val.{has_key}
use types.Run.{OneOf, hit}
use Rattle.definitions.proofs.Least.{or_cases}

-- the keys of all arms
abbrev pub one_of_all : List (List ℕ) → ℕ → Bool
one_of_all [] x = false
one_of_all (ks ∷ kss) x = has_key ks x || one_of_all kss x

-- none of the keys, the last arm first
abbrev pub NoneOf : List (List ℕ) → ℕ → Type 0
NoneOf [] x = Unit {0}
NoneOf (ks ∷ kss) x = NoneOf kss x × (OneOf ks x → ⊥)

not-one : (kss : List (List ℕ)) (x : ℕ) → NoneOf kss x → T (one_of_all kss x) → ⊥
not-one [] x r t = t
not-one (ks ∷ kss) x r t = ⊎_elim (λ h. r.1 (hit ks x h)) (λ h. not-one kss x r.0 h) (or_cases (has_key ks x) (one_of_all kss x) t)

module _ (P : ℕ → Type 0) where
  -- P at each of the keys
  abbrev pub AtKeys : List ℕ → Type 0
  AtKeys [] = Unit {0}
  AtKeys (k ∷ ks) = P k × AtKeys ks

  pub at-keys : (ks : List ℕ) → AtKeys ks → (x : ℕ) → OneOf ks x → P x
  at-keys [] t x o = absurd o
  at-keys (k ∷ []) t x o = subst P (sym o) t.0
  at-keys (k ∷ k' ∷ ks) t x o = ⊎_elim (λ e. subst P (sym e) t.0) (λ r. at-keys (k' ∷ ks) t.1 x r) o

  -- P at k, unless another arm has it
  abbrev pub Unless : Bool → ℕ → Type 0
  Unless true k = Unit {0}
  Unless false k = P k

  -- P at each of the n numbers from lo on that no other arm has
  abbrev pub InRange : List (List ℕ) → ℕ → ℕ → Type 0
  InRange kss lo zero = Unit {0}
  InRange kss lo (suc n) = Unless (one_of_all kss lo) lo × InRange kss (suc lo) n

  unless : (b : Bool) (k : ℕ) → (T b → ⊥) → Unless b k → P k
  unless true k n u = absurd (n tt)
  unless false k n u = u

  pub in-range : (kss : List (List ℕ)) (lo n : ℕ) → InRange kss lo n → (x : ℕ) → NoneOf kss x → lo ≤ x → x < lo + n → P x
  in-range kss lo zero t x r a b = absurd (omega arith)
  in-range kss lo (suc n) t x r a b =
      ⊎_elim (λ e. subst P e (unless (one_of_all kss lo) lo (λ h. not-one kss x r (subst (λ k. T (one_of_all kss k)) e h)) t.0))
      (λ l. in-range kss (suc lo) n t.1 x r l (omega arith))
      (eq-or-lt_of_le a)
