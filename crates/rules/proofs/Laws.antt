-- What numbers 4, 6 and 7 ask of a module, in the terms of this crate's contracts.
-- Assumes nothing.
use mathlib.Core.Path.{◌≡◌, refl, sym, ap, ap₂, ◌∙◌}
use mathlib.Core.Bool.{Bool, true, false, ◌&&◌, ◌||◌, cond, and_assoc, and-false}
use mathlib.Core.List.{List, [], ◌∷◌, ◌++◌}
use Prim.Native.Nat.{ℕ, zero, suc, ◌+◌, ◌-◌, ◌*◌, ◌%◌, ◌≤◌, ◌<◌, min}
use native.Mathlib.Decide.{dec_le}
use native.Mathlib.Omega.{arith}
use lib.Dec.{eqb, ltb, leb}
use lib.ListN.{length, get_or-eq_default}
use borrow.Author.Tests.{lt-ltb, le-ltb, le-leb, lt-leb, leb-true, leb-false, eq-eqb, ne_eqb}
use Rattle.definitions.specs.Lists.{all}
use Rattle.definitions.specs.Areas.{N, Arena, Areas, Elem, types, constants, overrides, globals, expressions, width, words, word, size, pool}
use Rattle.definitions.specs.Slots.{Slot, unused, free, below, must, may, start, count}
use Rattle.definitions.specs.References.{span, named_by, named_from}
use Rattle.definitions.specs.Order.{with_behind, sized_by, past_dep}
use Rattle.definitions.specs.Refusals.{every, runs_before, shaped, inside, held}
use Rattle.definitions.proofs.Kept.{sized_past}
use Rattle.definitions.proofs.Tandem.{past-mono}
use Rattle.arena.specs.Sizes.{sizes_of, size_in}
use Rattle.slots.proofs.Laws.{behind-append}
use Rattle.rules.specs.declared.Run.{Run}
use Rattle.rules.specs.Rules.{shaped_by, held_by, leading}

-- the sizes of a module, arena by arena
pub size_in_lem : (s : Areas) (a : Arena) → size s a ≡ size_in (sizes_of s) a
size_in_lem s types = refl
size_in_lem s constants = refl
size_in_lem s overrides = refl
size_in_lem s globals = refl
size_in_lem s expressions = refl

-- number 6 asks of a module no more than its sizes
pub held_by_lem : (s : Areas) (l : Slot) (w : ℕ) → held s l w ≡ held_by (size_in (sizes_of s)) l w
unfolding held held_by inside
held_by_lem s unused w = refl
held_by_lem s free w = refl
held_by_lem s (below n) w = refl
held_by_lem s (must a) w = ap (ltb w) (size_in_lem s a)
held_by_lem s (may a) w = ap (λ n. cond (eqb w N) true (ltb w n)) (size_in_lem s a)
held_by_lem s start w = refl
held_by_lem s count w = refl

-- a word that leaves room in a pool can't tell a sum from its cap, which is past the pool
capped : (w k r n m : ℕ) → r < m → eqb w n && leb (w + k) r ≡ eqb w (min n m) && leb (w + k) r
capped w k r n m l = elim (dec_le (w + k) r) [
  | yes h ↦ elim (dec_le n m) [
    | yes q ↦ let e : n ≡ min n m = omega arith in ap (λ n. eqb w n && leb (w + k) r) e
    | no q ↦ rw (ne_eqb w n (λ e. omega arith), ne_eqb w (min n m) (λ e. omega arith))
  ]
  | no h ↦ rw (lt-leb (w + k) r (omega arith), and-false (eqb w n), and-false (eqb w (min n m)))
]

-- number 4 asks of a word no more than the sum before, up to a cap past the pool, the record's count and its pool's length
pub shaped-by : (s : Areas) (a : Arena) (h : ℕ) (r : Run) → length (pool s a) < 4294967296 → r.sum ≡ min (runs_before s a h) 4294967296
    → r.span ≡ span s a h → r.room ≡ length (pool s a) → (l : Slot) (w : ℕ) → shaped s a h l w ≡ shaped_by r l w
unfolding shaped shaped_by
shaped-by s a h r m p q e unused w = refl
shaped-by s a h r m p q e free w = refl
shaped-by s a h r m p q e (below n) w = refl
shaped-by s a h r m p q e (must b) w = refl
shaped-by s a h r m p q e (may b) w = refl
shaped-by s a h r m p q e start w =
    capped w (span s a h) (length (pool s a)) (runs_before s a h) 4294967296 m
    ∙ ap₂ ◌&&◌ (ap (eqb w) (sym p)) (ap₂ (λ n k. leb (w + n) k) (sym q) (sym e))
shaped-by s a h r m p q e count w = refl

all_append : (p : Elem → Bool) (l r : List Elem) → all p (l ++ r) ≡ all p l && all p r
unfolding all
all_append p [] r = refl
all_append p (x ∷ l) r = ap (λ b. p x && b) (all_append p l r) ∙ sym (and_assoc (p x) (all p l) (all p r))

-- a test of all that the slots name, and of what stands behind it, is asked slot by slot
pub ordered-list : (p : Elem → Bool) (q : Areas) (f : ℕ → ℕ) (k : ℕ) (l : List Slot)
    → all p (with_behind q (named_from f k l)) ≡ every (λ x w. all p (with_behind q (named_by x w))) f k l
unfolding named_from every all with_behind
ordered-list p q f k [] = refl
ordered-list p q f k (x ∷ l) =
    ap (all p) (behind-append q (named_by x (f k)) (named_from f (suc k) l))
    ∙ all_append p (with_behind q (named_by x (f k))) (with_behind q (named_from f (suc k) l))
    ∙ ap (λ b. all p (with_behind q (named_by x (f k))) && b) (ordered-list p q f (suc k) l)

module _ (s : Areas) where
  leading_end : (e n t : ℕ) → leading s e t n ≤ t + n
  unfolding leading
  leading_end e zero t = omega arith
  leading_end e (suc n) t = go (leb (sized_by s t) e) (leading_end e n (suc t))
    where
      go : (b : Bool) → leading s e (suc t) n ≤ suc t + n → cond b (leading s e (suc t) n) t ≤ t + suc n
      go true h = omega arith
      go false h = omega arith

  -- the leading types are some of those there are
  pub leading_le : (e n : ℕ) → leading s e 0 n ≤ n
  leading_le e n = omega (arith, leading_end e n 0)

  goes_on : (e e' : ℕ) → e ≤ e' → (n t : ℕ) → leading s e' t n ≡ leading s e' (leading s e t n) (t + n - leading s e t n)
  unfolding leading
  goes_on e e' l zero t = let z : t + 0 - t ≡ 0 = omega arith in rw z
  goes_on e e' l (suc n) t = go (leb (sized_by s t) e) refl (goes_on e e' l n (suc t))
    where
      go : (b : Bool) → leb (sized_by s t) e ≡ b → leading s e' (suc t) n ≡ leading s e' (leading s e (suc t) n) (suc t + n - leading s e (suc t) n)
          → leading s e' t (suc n) ≡ leading s e' (cond b (leading s e (suc t) n) t) (t + suc n - cond b (leading s e (suc t) n) t)
      go true q r =
          let z : suc t + n ≡ t + suc n = omega arith in
          ap (λ b. cond b (leading s e' (suc t) n) t) (le-leb (sized_by s t) e' (omega (arith, leb-true (sized_by s t) e q)))
          ∙ r
          ∙ ap (λ m. leading s e' (leading s e (suc t) n) (m - leading s e (suc t) n)) z
      go false q r = let z : suc n ≡ t + suc n - t = omega arith in ap (leading s e' t) z

  -- a larger bound goes on from where a smaller one stopped
  pub leading-on : (e e' n : ℕ) → e ≤ e' → leading s e' 0 n ≡ leading s e' (leading s e 0 n) (n - leading s e 0 n)
  leading-on e e' n l =
      let z : 0 + n ≡ n = omega arith in
      goes_on e e' l n 0 ∙ ap (λ m. leading s e' (leading s e 0 n) (m - leading s e 0 n)) z

  -- each that is passed is sized below the bound
  passed : (e n t u : ℕ) → t ≤ u → u < leading s e t n → sized_by s u ≤ e
  unfolding leading
  passed e zero t u a b = absurd (omega arith)
  passed e (suc n) t u a b = go (leb (sized_by s t) e) refl b (passed e n (suc t) u)
    where
      go : (b : Bool) → leb (sized_by s t) e ≡ b → u < cond b (leading s e (suc t) n) t → (suc t ≤ u → u < leading s e (suc t) n → sized_by s u ≤ e)
          → sized_by s u ≤ e
      go true q l r = elim (dec_le u t) [
        | yes h ↦ let z : t ≡ u = omega arith in rw z at (leb-true (sized_by s t) e q)
        | no h ↦ r (omega arith) l
      ]
      go false q l r = absurd (omega arith)

  -- and the one that it stops at is not
  stopped : (e n t : ℕ) → leading s e t n < t + n → e < sized_by s (leading s e t n)
  unfolding leading
  stopped e zero t h = absurd (omega arith)
  stopped e (suc n) t h = go (leb (sized_by s t) e) refl h (stopped e n (suc t))
    where
      go : (b : Bool) → leb (sized_by s t) e ≡ b → cond b (leading s e (suc t) n) t < t + suc n
          → (leading s e (suc t) n < suc t + n → e < sized_by s (leading s e (suc t) n)) → e < sized_by s (cond b (leading s e (suc t) n) t)
      go true q l r = r (omega arith)
      go false q l r = leb-false (sized_by s t) e q

  dep-le : (e u : ℕ) → ((v : ℕ) → v ≤ u → sized_by s v ≤ e) → past_dep s u ≤ e
  unfolding past_dep
  dep-le e zero f = f zero (omega arith)
  dep-le e (suc u) f =
      let h : past_dep s u ≤ e = dep-le e u (λ v l. f v (omega arith)) in
      let k : sized_by s (suc u) ≤ e = f (suc u) (omega arith) in
      omega arith

  -- past the last type a kind reads 0, where no words are left over
  unsized : length s.types % width types ≡ 0 → (v : ℕ) → size s types ≤ v → sized_by s v ≡ 0
  unfolding sized_by word words size width
  unsized w v l = let h : length s.types ≤ v * width types + 0 = omega arith in rw (get_or-eq_default s.types 0 h)

  -- a type's dep is below e just where the type is leading, or all are; no words are left over past the last type
  pub leading-dep : length s.types % width types ≡ 0 → (e u : ℕ)
      → leb (past_dep s u) e ≡ (eqb (leading s e 0 (size s types)) (size s types) || ltb u (leading s e 0 (size s types)))
  leading-dep w e u = elim (dec_le n t) [
    | yes a ↦
        le-leb (past_dep s u) e (dep-le e u (λ v l. all_small a v))
        ∙ sym (ap (λ b. b || ltb u t) (eq-eqb t n (omega (arith, leading_le e n))))
    | no a ↦ elim (dec_le t u) [
      | yes b ↦
          lt-leb (past_dep s u) e (omega (arith, stopped e n 0 (omega arith), sized_past s t, past-mono s u t b))
          ∙ sym (ap₂ ◌||◌ (ne_eqb t n (λ q. omega arith)) (le-ltb u t b))
      | no b ↦
          le-leb (past_dep s u) e (dep-le e u (λ v l. passed e n 0 v (omega arith) (omega arith)))
          ∙ sym (ap₂ ◌||◌ (ne_eqb t n (λ q. omega arith)) (lt-ltb u t (omega arith)))
    ]
  ]
    where
      n : ℕ
      n = size s types

      t : ℕ
      t = leading s e 0 n

      all_small : n ≤ t → (v : ℕ) → sized_by s v ≤ e
      all_small a v = elim (dec_le n v) [
        | yes b ↦ omega (arith, unsized w v b)
        | no b ↦ passed e n 0 v (omega arith) (omega arith)
      ]
