-- The visiting order: each is visited once, and the tandem with dep visits a referrer before what it refers to.
-- Assumes nothing.
use mathlib.Core.Path.{◌≡◌, refl, sym, ap, ap₂, subst, ◌∙◌}
use mathlib.Core.Logic.{◌⊎◌, inl, inr, ⊎_elim}
use mathlib.Core.List.{◌∷◌}
use Prim.Native.Nat.{ℕ, zero, suc, ◌+◌, ◌-◌, ◌≤◌, ◌<◌, zero-le, min}
use native.Mathlib.Nat.{zero-add, le_refl, le_trans, le_of_suc-le-suc, not-suc-le-zero, eq-or-lt_of_le}
use native.Mathlib.Decide.{dec_le}
use native.Mathlib.Omega.{arith}
use lib.ListN.{length, length-append}
use Rattle.definitions.specs.Areas.{Areas, Elem, at, constants, expressions, globals, overrides, types}
use Rattle.definitions.specs.Order.{falling, past_dep, visits}
use Rattle.definitions.proofs.Least.{◌∈◌, here, there, cons-cases, none_in, append_left, append_right, append_cases, Within, Sorted, sorted-append}

le-or-lt : (a b : ℕ) → (a ≤ b) ⊎ (b < a)
le-or-lt a b = go (dec_le a b)
  where
    go : Dec (a ≤ b) → (a ≤ b) ⊎ (b < a)
    go (yes h) = inl h
    go (no h) = inr (omega arith)

module _ (s : Areas) where
  -- x is visited before y
  abbrev pub Before : Elem → Elem → Type 0
  Before (at types t) (at types u) = u < t
  Before (at types t) (at constants h) = ⊥
  Before (at types t) (at overrides h) = ⊥
  Before (at types t) (at globals h) = ⊥
  Before (at types t) (at expressions e) = e < past_dep s t
  Before (at constants c) y = ⊥
  Before (at overrides c) y = ⊥
  Before (at globals c) y = ⊥
  Before (at expressions e) (at types u) = past_dep s u ≤ e
  Before (at expressions e) (at constants h) = ⊥
  Before (at expressions e) (at overrides h) = ⊥
  Before (at expressions e) (at globals h) = ⊥
  Before (at expressions e) (at expressions i) = i < e

  pub asym : (x y : Elem) → Before x y → Before y x → ⊥
  asym (at types t) (at types u) p q = omega arith
  asym (at types t) (at constants h) p q = p
  asym (at types t) (at overrides h) p q = p
  asym (at types t) (at globals h) p q = p
  asym (at types t) (at expressions e) p q = omega arith
  asym (at constants c) y p q = p
  asym (at overrides c) y p q = p
  asym (at globals c) y p q = p
  asym (at expressions e) (at types u) p q = omega arith
  asym (at expressions e) (at constants h) p q = p
  asym (at expressions e) (at overrides h) p q = p
  asym (at expressions e) (at globals h) p q = p
  asym (at expressions e) (at expressions i) p q = omega arith

  -- one of t types or of the expressions from p up to e
  abbrev pub Among : ℕ → ℕ → ℕ → Elem → Type 0
  Among t p e (at types u) = u < t
  Among t p e (at constants h) = ⊥
  Among t p e (at overrides h) = ⊥
  Among t p e (at globals h) = ⊥
  Among t p e (at expressions i) = (p ≤ i) × (i < e)

  pub past-mono : (t u : ℕ) → u ≤ t → past_dep s u ≤ past_dep s t
  unfolding past_dep
  past-mono zero u h = subst (λ k. past_dep s k ≤ past_dep s zero) (sym (le-zero u h)) (le_refl (past_dep s zero))
    where
      le-zero : (u : ℕ) → u ≤ zero → u ≡ zero
      le-zero u h = omega arith
  past-mono (suc t) u h =
      ⊎_elim (λ e. subst (λ k. past_dep s k ≤ past_dep s (suc t)) (sym e) (le_refl (past_dep s (suc t))))
      (λ l. let m : past_dep s u ≤ past_dep s t = past-mono t u (le_of_suc-le-suc l) in omega arith)
      (eq-or-lt_of_le h)

  falling-length : (p n : ℕ) → length (falling p n) ≡ n
  unfolding falling
  falling-length p zero = refl
  falling-length p (suc n) = ap suc (falling-length p n)

  falling-among : (p n : ℕ) → Within (falling p n) (Among 0 p (p + n))
  unfolding falling
  falling-among p zero x h = absurd (none_in x h)
  falling-among p (suc n) x h =
      ⊎_elim (λ e. subst (Among 0 p (p + suc n)) (sym e) (omega arith))
      (λ i. wider x (falling-among p n x i))
      (cons-cases x (at expressions (p + n)) (falling p n) h)
    where
      wider : (x : Elem) → Among 0 p (p + n) x → Among 0 p (p + suc n) x
      wider (at types u) a = a
      wider (at constants u) a = a
      wider (at overrides u) a = a
      wider (at globals u) a = a
      wider (at expressions u) a = omega arith

  falling-sorted : (p n : ℕ) → Sorted Before (falling p n)
  unfolding falling
  falling-sorted p zero = tt
  falling-sorted p (suc n) = (λ x h. first x (falling-among p n x h), falling-sorted p n)
    where
      first : (x : Elem) → Among 0 p (p + n) x → Before (at expressions (p + n)) x
      first (at types u) a = absurd (not-suc-le-zero a)
      first (at constants u) a = a
      first (at overrides u) a = a
      first (at globals u) a = a
      first (at expressions u) a = a.1

  falling-all : (p n i : ℕ) → p ≤ i → i < p + n → at expressions i ∈ falling p n
  unfolding falling
  falling-all p zero i a b = absurd (omega arith)
  falling-all p (suc n) i a b =
      ⊎_elim (λ e. subst (λ k. at expressions i ∈ at expressions k ∷ falling p n) e (here (at expressions i) (falling p n)))
      (λ l. there (at expressions i) (at expressions (p + n)) (falling p n) (falling-all p n i a l))
      (eq-or-lt_of_le (le_of_suc-le-suc (suc-right b)))
    where
      suc-right : i < p + suc n → suc i ≤ suc (p + n)
      suc-right h = omega arith

  pub visits-among : (t e : ℕ) → Within (visits s t e) (Among t 0 e)
  unfolding visits
  visits-among zero e x h = subst (λ k. Among 0 0 k x) (zero-add e) (falling-among 0 e x h)
  visits-among (suc t) e x h =
      ⊎_elim (λ i. some x (falling-among (past_dep s t) (e - past_dep s t) x i))
      (λ i.
      ⊎_elim (λ q. subst (Among (suc t) 0 e) (sym q) (le_refl (suc t)))
      (λ j. rest x (visits-among t (min e (past_dep s t)) x j))
      (cons-cases x (at types t) (visits s t (min e (past_dep s t))) i))
      (append_cases x (falling (past_dep s t) (e - past_dep s t)) (at types t ∷ visits s t (min e (past_dep s t))) h)
    where
      some : (x : Elem) → Among 0 (past_dep s t) (past_dep s t + (e - past_dep s t)) x → Among (suc t) 0 e x
      some (at types u) a = omega arith
      some (at constants u) a = a
      some (at overrides u) a = a
      some (at globals u) a = a
      some (at expressions u) a = omega arith

      rest : (x : Elem) → Among t 0 (min e (past_dep s t)) x → Among (suc t) 0 e x
      rest (at types u) a = omega arith
      rest (at constants u) a = a
      rest (at overrides u) a = a
      rest (at globals u) a = a
      rest (at expressions u) a = omega arith

  -- each stands before all that are visited after it
  pub visits-sorted : (t e : ℕ) → Sorted Before (visits s t e)
  unfolding visits
  visits-sorted zero e = falling-sorted 0 e
  visits-sorted (suc t) e =
      sorted-append Before (falling p (e - p)) (at types t ∷ visits s t (min e p)) (falling-sorted p (e - p))
      (λ y i. then y (visits-among t (min e p) y i), visits-sorted t (min e p))
      (λ x i y j.
      ⊎_elim (λ q. subst (Before x) (sym q) (before-type x (falling-among p (e - p) x i)))
      (λ k. before-rest x y (falling-among p (e - p) x i) (visits-among t (min e p) y k))
      (cons-cases y (at types t) (visits s t (min e p)) j))
    where
      p : ℕ
      p = past_dep s t

      then : (y : Elem) → Among t 0 (min e p) y → Before (at types t) y
      then (at types u) a = a
      then (at constants u) a = a
      then (at overrides u) a = a
      then (at globals u) a = a
      then (at expressions u) a = omega arith

      before-type : (x : Elem) → Among 0 p (p + (e - p)) x → Before x (at types t)
      before-type (at types u) a = absurd (not-suc-le-zero a)
      before-type (at constants u) a = a
      before-type (at overrides u) a = a
      before-type (at globals u) a = a
      before-type (at expressions u) a = a.0

      before-rest : (x y : Elem) → Among 0 p (p + (e - p)) x → Among t 0 (min e p) y → Before x y
      before-rest (at types u) y a b = absurd (not-suc-le-zero a)
      before-rest (at constants u) y a b = a
      before-rest (at overrides u) y a b = a
      before-rest (at globals u) y a b = a
      before-rest (at expressions u) (at types v) a b = le_trans (past-mono t v (omega arith)) a.0
      before-rest (at expressions u) (at constants v) a b = b
      before-rest (at expressions u) (at overrides v) a b = b
      before-rest (at expressions u) (at globals v) a b = b
      before-rest (at expressions u) (at expressions v) a b = omega arith

  -- every type and every expression is visited
  pub visits-types : (t e u : ℕ) → u < t → at types u ∈ visits s t e
  unfolding visits
  visits-types zero e u h = absurd (not-suc-le-zero h)
  visits-types (suc t) e u h =
      append_right (at types u) (falling (past_dep s t) (e - past_dep s t)) (at types t ∷ visits s t (min e (past_dep s t)))
      (⊎_elim (λ q. subst (λ k. at types u ∈ at types k ∷ visits s t (min e (past_dep s t))) q (here (at types u) _))
      (λ l. there (at types u) (at types t) _ (visits-types t (min e (past_dep s t)) u l))
      (eq-or-lt_of_le (le_of_suc-le-suc h)))

  pub visits-expressions : (t e i : ℕ) → i < e → at expressions i ∈ visits s t e
  unfolding visits
  visits-expressions zero e i h = falling-all 0 e i zero-le (subst (λ k. i < k) (sym (zero-add e)) h)
  visits-expressions (suc t) e i h =
      ⊎_elim
      (λ a. append_left (at expressions i) (falling (past_dep s t) (e - past_dep s t)) _ (falling-all (past_dep s t) (e - past_dep s t) i a (omega arith)))
      (λ b.
      append_right (at expressions i) (falling (past_dep s t) (e - past_dep s t)) _
      (there (at expressions i) (at types t) _ (visits-expressions t (min e (past_dep s t)) i (omega arith))))
      (le-or-lt (past_dep s t) i)

  -- ---- the visits one at a time, as two falling numbers make them

  -- an expression above dep of the youngest unvisited type comes next
  pub next-expression : (t e : ℕ) → past_dep s t ≤ e → visits s (suc t) (suc e) ≡ at expressions e ∷ visits s (suc t) e
  unfolding visits falling
  next-expression t e l =
      let a : suc e - past_dep s t ≡ suc (e - past_dep s t) = omega arith in
      let b : past_dep s t + (e - past_dep s t) ≡ e = omega arith in
      let d : min (suc e) (past_dep s t) ≡ min e (past_dep s t) = omega arith in
      rw (a, b, d)

  -- else the type
  pub next-type : (t e : ℕ) → e ≤ past_dep s t → visits s (suc t) e ≡ at types t ∷ visits s t e
  unfolding visits falling
  next-type t e l =
      let a : e - past_dep s t ≡ 0 = omega arith in
      let d : min e (past_dep s t) ≡ e = omega arith in
      rw (a, d)

  -- and with no type left, the rest
  pub next-rest : (e : ℕ) → visits s 0 (suc e) ≡ at expressions e ∷ visits s 0 e
  unfolding visits falling
  next-rest e = rw (zero-add e)

  -- how many remain
  pub visits-length : (t e : ℕ) → length (visits s t e) ≡ t + e
  unfolding visits
  visits-length zero e = falling-length 0 e ∙ sym (zero-add e)
  visits-length (suc t) e =
      length-append (falling (past_dep s t) (e - past_dep s t)) (at types t ∷ visits s t (min e (past_dep s t)))
      ∙ ap₂ (λ p q. p + suc q) (falling-length (past_dep s t) (e - past_dep s t)) (visits-length t (min e (past_dep s t)))
      ∙ omega arith
