-- What is asked of all slots of a record can be asked of its shape.
-- Assumes nothing.
use mathlib.Core.Path.{◌≡◌, refl, sym, ap, ◌∙◌}
use mathlib.Core.Bool.{Bool, true, ◌&&◌}
use mathlib.Core.List.{List, [], ◌∷◌, ◌++◌, append_assoc}
use Prim.Native.Nat.{ℕ, zero, suc, ◌+◌, ◌≤◌}
use native.Mathlib.Nat.{le_of_suc-le-suc, not-suc-le-zero}
use native.Mathlib.Omega.{arith}
use lib.ListN.{length, take, drop}
use Rattle.definitions.specs.Areas.{Areas, Arena, Elem, types, constants, overrides, globals, expressions, width, word, pool}
use Rattle.definitions.specs.Slots.{Slot, unused, free, fill, body, tail, slots}
use Rattle.definitions.specs.References.{has_run, span, run, named_by, named_from}
use Rattle.definitions.specs.Order.{behind, with_behind}
use Rattle.definitions.specs.Refusals.{every}
use Rattle.definitions.proofs.Reading.{body-length}
use Rattle.slots.specs.Codes.{packed, unpacked, decoded, codes, span_in, run_in}
use Rattle.slots.proofs.Packing.{packed-body}

pub tail-fits : (a : Arena) → length tail ≤ width a
tail-fits a = omega (arith, body-length a (λ _. 0))

body-le : (a : Arena) (f : ℕ → ℕ) → length (body a f) ≤ 10
unfolding width
body-le a f = go a (body-length a f)
  where
    go : (a : Arena) {n : ℕ} → n + length tail ≡ width a → n ≤ 10
    go types e = omega arith
    go constants e = omega arith
    go overrides e = omega arith
    go globals e = omega arith
    go expressions e = omega arith

fill-exact : (l : List Slot) → fill (length l) l ≡ l
unfolding fill
fill-exact [] = refl
fill-exact (x ∷ l) = ap (λ r. x ∷ r) (fill-exact l)

-- as many slots as the body has words unpack to the body
pub body-shape : (a : Arena) (f : ℕ → ℕ) (v n : ℕ) → v ≡ packed (body a f) → n + length tail ≡ width a → unpacked v n ≡ body a f
body-shape a f v n e w =
    let q : n ≡ length (body a f) = omega (arith, body-length a f) in
    packed-body a f n e (omega arith) ∙ rw q (fill-exact (body a f))

module _ (p : Slot → ℕ → Bool) (f : ℕ → ℕ) where
  -- a test that every free slot passes is asked of no tail
  pub every-tail : ((w : ℕ) → p free w ≡ true) → (l : List Slot) (k : ℕ) → every p f k (l ++ tail) ≡ every p f k l
  unfolding every
  every-tail t [] k = simp t
  every-tail t (x ∷ l) k = ap (λ b. p x (f k) && b) (every-tail t l (suc k))

  -- of a shape that has run out nothing is asked
  pub every-none : ((w : ℕ) → p unused w ≡ true) → (n k : ℕ) → every p f k (unpacked 0 n) ≡ true
  unfolding unpacked decoded codes every
  every-none u zero k = refl
  every-none u (suc n) k = rw (u (f k)) (every-none u n (suc k))

  -- so it is asked of the shape, of as many slots as the body has words
  pub every_body : ((w : ℕ) → p free w ≡ true) → (a : Arena) (v n : ℕ) → v ≡ packed (body a f) → n + length tail ≡ width a
      → every p f 0 (slots a f) ≡ every p f 0 (unpacked v n)
  unfolding slots
  every_body t a v n e w = every-tail t (body a f) 0 ∙ ap (every p f 0) (sym (body-shape a f v n e w))

module _ (f : ℕ → ℕ) where
  named-fill : (n : ℕ) (l : List Slot) (k : ℕ) → length l ≤ n → named_from f k (fill n l) ≡ named_from f k l
  unfolding fill named_from named_by
  named-fill zero [] k h = refl
  named-fill zero (x ∷ l) k h = absurd (not-suc-le-zero h)
  named-fill (suc n) [] k h = named-fill n [] (suc k) (omega arith)
  named-fill (suc n) (x ∷ l) k h = ap (λ r. named_by x (f k) ++ r) (named-fill n l (suc k) (le_of_suc-le-suc h))

  named-tail : (l : List Slot) (k : ℕ) → named_from f k (l ++ tail) ≡ named_from f k l
  unfolding named_from named_by
  named-tail [] k = refl
  named-tail (x ∷ l) k = ap (λ r. named_by x (f k) ++ r) (named-tail l (suc k))

  -- a shape that has run out names nothing
  pub named_none : (n k : ℕ) → named_from f k (unpacked 0 n) ≡ []
  unfolding unpacked decoded codes named_from named_by
  named_none zero k = refl
  named_none (suc n) k = named_none n (suc k)

  -- what a record's slots name, its shape names
  pub named-shape : (a : Arena) (v : ℕ) → v ≡ packed (body a f) → named_from f 0 (slots a f) ≡ named_from f 0 (unpacked v 10)
  unfolding slots
  named-shape a v e = named-tail (body a f) 0 ∙ sym (named-fill 10 (body a f) 0 (body-le a f)) ∙ ap (named_from f 0) (sym (packed-body a f 10 e (body-le a f)))

-- the count of a record's run, and the run, in the module
pub span-in : (s : Areas) (a : Arena) (h : ℕ) → span s a h ≡ span_in a (word s a h)
unfolding span has_run span_in
span-in s types h = refl
span-in s constants h = refl
span-in s overrides h = refl
span-in s globals h = refl
span-in s expressions h = refl

pub run_in_lem : (s : Areas) (a : Arena) (h : ℕ) → run s a h ≡ run_in a (word s a h) (pool s a)
unfolding run run_in
run_in_lem s a h = ap (λ n. take n (drop (word s a h 2) (pool s a))) (span-in s a h)

-- what stands behind some elements and then more
pub behind-append : (s : Areas) (l r : List Elem) → with_behind s (l ++ r) ≡ with_behind s l ++ with_behind s r
unfolding with_behind
behind-append s [] r = refl
behind-append s (x ∷ l) r =
    ap (λ m. x ∷ (behind s x ++ m)) (behind-append s l r) ∙ ap (λ m. x ∷ m) (sym (append_assoc (behind s x) (with_behind s l) (with_behind s r)))
