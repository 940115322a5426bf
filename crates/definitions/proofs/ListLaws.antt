-- Laws of `total` and `gather`.
-- Assumes nothing.
use mathlib.Core.Path.{◌≡◌, refl, sym, ap, ap₂, subst, ◌∙◌}
use mathlib.Core.Bool.{Bool, true, false, cond}
use mathlib.Core.Logic.{⊎_elim}
use mathlib.Core.List.{List, [], ◌++◌, append_assoc, append-nil}
use Prim.Native.Nat.{ℕ, zero, suc, ◌+◌, ◌*◌, ◌≤◌, ◌<◌}
use native.Mathlib.Nat.{le_refl, le_trans, not-suc-le-zero, le_of_suc-le-suc, eq-or-lt_of_le}
use native.Mathlib.Numerals.{add-one}
use native.Mathlib.Omega.{arith}
use lib.Dec.{T}
use lib.ListN.{length, get_or, take, drop, length-append}
use lib.Seq.{take-append_seam, drop-append_seam, get_or-drop, get_or-take}
use Rattle.definitions.specs.Lists.{always, gather, total}

module _ (p : ℕ → Bool) (g : ℕ → ℕ) where
  pub total-step : (h : ℕ) → T (p h) → total p g (suc h) ≡ total p g h + g h
  unfolding total
  total-step h t = go (p h) t
    where
      go : (b : Bool) → T b → cond b (total p g h + g h) (total p g h) ≡ total p g h + g h
      go true u = refl
      go false u = absurd u

  pub total-skip : (h : ℕ) → p h ≡ false → total p g (suc h) ≡ total p g h
  unfolding total
  total-skip h e = rw e

  pub total-up : (h : ℕ) → total p g h ≤ total p g (suc h)
  unfolding total
  total-up h = go (p h)
    where
      go : (b : Bool) → total p g h ≤ cond b (total p g h + g h) (total p g h)
      go true = omega arith
      go false = omega arith

  pub total_mono : (k h : ℕ) → h ≤ k → total p g h ≤ total p g k
  total_mono zero h l = ⊎_elim (λ e. subst (λ j. total p g j ≤ total p g zero) (sym e) (le_refl _)) (λ q. absurd (not-suc-le-zero q)) (eq-or-lt_of_le l)
  total_mono (suc k) h l =
      ⊎_elim (λ e. subst (λ j. total p g j ≤ total p g (suc k)) (sym e) (le_refl _))
      (λ q. le_trans (total_mono k h (le_of_suc-le-suc q)) (total-up k))
      (eq-or-lt_of_le l)

  -- one that passes has its share below every later sum
  pub total-share : (h k : ℕ) → T (p h) → h < k → total p g h + g h ≤ total p g k
  total-share h k t l = subst (λ j. j ≤ total p g k) (total-step h t) (total_mono k (suc h) l)

pub total-any : (p : ℕ → Bool) (g : ℕ → ℕ) (n : ℕ) → total p g n ≤ total always g n
unfolding total
total-any p g zero = le_refl 0
total-any p g (suc n) = go (p n) (total-any p g n)
  where
    go : (b : Bool) → total p g n ≤ total always g n → cond b (total p g n + g n) (total p g n) ≤ total always g n + g n
    go true l = omega arith
    go false l = omega arith

-- equal shares, equal sums
pub total-cong : (p : ℕ → Bool) (f g : ℕ → ℕ) (n : ℕ) → ((h : ℕ) → h < n → T (p h) → f h ≡ g h) → total p f n ≡ total p g n
unfolding total
total-cong p f g zero e = refl
total-cong p f g (suc n) e = go (p n) (e n (le_refl (suc n))) (total-cong p f g n (λ h l t. e h (le_trans l (omega arith)) t))
  where
    go : (b : Bool) → (T b → f n ≡ g n) → total p f n ≡ total p g n → cond b (total p f n + f n) (total p f n) ≡ cond b (total p g n + g n) (total p g n)
    go true q r = ap₂ ◌+◌ r (q tt)
    go false q r = r

-- w for each is w times how many
pub total-scale : (p : ℕ → Bool) (w n : ℕ) → total p (λ _. w) n ≡ total p (λ _. 1) n * w
unfolding total
total-scale p w zero = omega arith
total-scale p w (suc n) = go (p n) (total-scale p w n)
  where
    go : (b : Bool) → total p (λ _. w) n ≡ total p (λ _. 1) n * w
        → cond b (total p (λ _. w) n + w) (total p (λ _. w) n) ≡ cond b (total p (λ _. 1) n + 1) (total p (λ _. 1) n) * w
    go true e = omega arith
    go false e = e

-- where every number passes, each has its share
pub total-always : (w n : ℕ) → total always (λ _. w) n ≡ n * w
unfolding total
total-always w zero = omega arith
total-always w (suc n) = rw (total-always w n) (omega arith)

pub gather-step : (p : ℕ → Bool) (f : ℕ → List ℕ) (h : ℕ) → p h ≡ true → gather p f (suc h) ≡ gather p f h ++ f h
unfolding gather
gather-step p f h e = rw e

pub gather-skip : (p : ℕ → Bool) (f : ℕ → List ℕ) (h : ℕ) → p h ≡ false → gather p f (suc h) ≡ gather p f h
unfolding gather
gather-skip p f h e = rw e (append-nil (gather p f h))

pub length-gather : (p : ℕ → Bool) (f : ℕ → List ℕ) (n : ℕ) → length (gather p f n) ≡ total p (λ h. length (f h)) n
unfolding gather total
length-gather p f zero = refl
length-gather p f (suc n) = go (p n) (length-gather p f n)
  where
    go : (b : Bool) → length (gather p f n) ≡ total p (λ h. length (f h)) n
        → length (gather p f n ++ cond b (f n) []) ≡ cond b (total p (λ h. length (f h)) n + length (f n)) (total p (λ h. length (f h)) n)
    go true e = length-append (gather p f n) (f n) ∙ ap (λ j. j + length (f n)) e
    go false e = ap length (append-nil (gather p f n)) ∙ e

-- the part of one that passes, with what follows
pub gather-split : (p : ℕ → Bool) (f : ℕ → List ℕ) (h n : ℕ) → T (p h) → h < n
    → (r : List ℕ) × (gather p f n ≡ gather p f h ++ (f h ++ r))
unfolding gather
gather-split p f h zero t l = absurd (not-suc-le-zero l)
gather-split p f h (suc n) t l =
    ⊎_elim (λ e. here e) (λ q. later (gather-split p f h n t q)) (eq-or-lt_of_le (le_of_suc-le-suc l))
  where
    here : h ≡ n → (r : List ℕ) × (gather p f n ++ cond (p n) (f n) [] ≡ gather p f h ++ (f h ++ r))
    here e = ([], subst (λ k. gather p f k ++ cond (p k) (f k) [] ≡ gather p f h ++ (f h ++ [])) e (ap (λ l. gather p f h ++ l) (go (p h) t)))
      where
        go : (b : Bool) → T b → cond b (f h) [] ≡ f h ++ []
        go true u = sym (append-nil (f h))
        go false u = absurd u

    later : (r : List ℕ) × (gather p f n ≡ gather p f h ++ (f h ++ r)) → (r : List ℕ) × (gather p f n ++ cond (p n) (f n) [] ≡ gather p f h ++ (f h ++ r))
    later q = (
      q.0 ++ cond (p n) (f n) [],
      ap (λ l. l ++ cond (p n) (f n) []) q.1 ∙ append_assoc (gather p f h) (f h ++ q.0) _ ∙ ap (λ l. gather p f h ++ l) (append_assoc (f h) q.0 _),
    )

-- reading one that passes
pub gather-part : (p : ℕ → Bool) (f : ℕ → List ℕ) (h n : ℕ) → T (p h) → h < n
    → take (length (f h)) (drop (total p (λ i. length (f i)) h) (gather p f n)) ≡ f h
gather-part p f h n t l =
    let q = gather-split p f h n t l in
    rw (← length-gather p f h, q.1, drop-append_seam, take-append_seam)

pub gather-word : (p : ℕ → Bool) (f : ℕ → List ℕ) (h n k d : ℕ) → T (p h) → h < n → k < length (f h)
    → get_or (gather p f n) (total p (λ i. length (f i)) h + k) d ≡ get_or (f h) k d
gather-word p f h n k d t l b =
    sym (get_or-drop (total p (λ i. length (f i)) h) (gather p f n) k d)
    ∙ sym (get_or-take (length (f h)) (drop (total p (λ i. length (f i)) h) (gather p f n)) k d b)
    ∙ ap (λ r. get_or r k d) (gather-part p f h n t l)

-- each number below how many pass is how many pass before one that passes
pub record Ranked (p : ℕ → Bool) (n i : ℕ) : Type 0 where
  pub at : ℕ
  pub at_lt : at < n
  pub at-passes : T (p at)
  pub at-rank : total p (λ _. 1) at ≡ i

pub unrank : (p : ℕ → Bool) (n i : ℕ) → i < total p (λ _. 1) n → Ranked p n i
unfolding total
unrank p zero i l = absurd (not-suc-le-zero l)
unrank p (suc n) i l = go (p n) refl l (λ q. unrank p n i q)
  where
    wider : Ranked p n i → Ranked p (suc n) i
    wider r = record { at = r.at; at_lt = le_trans r.at_lt (omega arith); at-passes = r.at-passes; at-rank = r.at-rank }

    go : (b : Bool) → p n ≡ b → i < cond b (total p (λ _. 1) n + 1) (total p (λ _. 1) n) → (i < total p (λ _. 1) n → Ranked p n i)
        → Ranked p (suc n) i
    go true e k f =
        ⊎_elim (λ q. record { at = n; at_lt = le_refl (suc n); at-passes = subst T (sym e) tt; at-rank = sym q }) (λ q. wider (f q))
        (eq-or-lt_of_le (le_of_suc-le-suc (rw add-one at k)))
    go false e k f = wider (f k)
