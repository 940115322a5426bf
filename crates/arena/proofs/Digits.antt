-- Digits of a word in base 2: one of them set, one as a number, and words that have the same.
-- Assumes nothing.
use mathlib.Core.Path.{◌≡◌, refl, ap, sym, subst, ◌∙◌}
use mathlib.Core.Bool.{true, false, cond}
use Prim.Native.Nat.{ℕ, zero, suc, ◌+◌, ◌-◌, ◌*◌, ◌/◌, ◌%◌, ◌^◌, ◌<◌, suc-le-suc, zero-le}
use native.Mathlib.Nat.{pow-suc, one-mul, mod-lt, div-one, zero-div, mul-mod_left, div-eq_of_lt, zero-lt-suc}
use native.Mathlib.Numerals.{add-one}
use native.Mathlib.Decide.{dec_lt}
use native.Mathlib.Omega.{arith}
use lib.Dec.{eqb}
use lib.Bits.{bit_or, or_shr, or_mod, or_zero_r}
use lib.Pow.{pow-lt, pow-add, shl-shr, shl_exact, shr-shr, shr_lt}
use borrow.Author.Tests.{eqb-false}
use Rattle.arena.specs.HandleSet.{digit}

-- ---- one digit set

-- the digits of 2 ^ p
here : (p : ℕ) → 2 ^ p / 2 ^ p % 2 ≡ 1
here p = ap (λ (n : ℕ). n / 2 ^ p % 2) (sym (one-mul (2 ^ p))) ∙ ap (λ (n : ℕ). n % 2) (shl-shr 1 p)

below : (p k : ℕ) → k < p → 2 ^ p / 2 ^ k % 2 ≡ 0
below p k l =
    let d : ℕ = p - suc k in
    let e : p ≡ suc d + k = omega arith in
    ap (λ (n : ℕ). 2 ^ n / 2 ^ k % 2) e
    ∙ ap (λ (n : ℕ). n / 2 ^ k % 2) (pow-add 2 (suc d) k)
    ∙ ap (λ (n : ℕ). n % 2) (shl-shr (2 ^ suc d) k)
    ∙ ap (λ (n : ℕ). n % 2) (pow-suc 2 d)
    ∙ mul-mod_left (2 ^ d) 2

elsewhere : (p k : ℕ) → (k ≡ p → ⊥) → 2 ^ p / 2 ^ k % 2 ≡ 0
elsewhere p k ne = elim (dec_lt k p) [ yes a ↦ below p k a | no b ↦ ap (λ (n : ℕ). n % 2) (div-eq_of_lt (pow-lt (omega arith))) ]

-- a digit of a word with another joined to it
joined : (w v k : ℕ) → bit_or w v / 2 ^ k % 2 ≡ bit_or (w / 2 ^ k % 2) (v / 2 ^ k % 2)
joined w v k = ap (λ (n : ℕ). n % 2) (or_shr w v k) ∙ or_mod (w / 2 ^ k) (v / 2 ^ k) 1

or-one : (x : ℕ) → x < 2 → bit_or x 1 ≡ 1
or-one zero l = refl
or-one (suc zero) l = refl
or-one (suc (suc x)) l = absurd (omega arith)

-- the digit that was set
pub set_here : (w p : ℕ) → digit (bit_or w (2 ^ p)) p ≡ true
set_here w p =
    ap (λ (n : ℕ). eqb n 1)
    (joined w (2 ^ p) p ∙ ap (bit_or (w / 2 ^ p % 2)) (here p) ∙ or-one (w / 2 ^ p % 2) (mod-lt (w / 2 ^ p) (zero-lt-suc 1)))

-- any other digit
pub set-elsewhere : (w p k : ℕ) → (k ≡ p → ⊥) → digit (bit_or w (2 ^ p)) k ≡ digit w k
set-elsewhere w p k ne =
    ap (λ (n : ℕ). eqb n 1) (joined w (2 ^ p) k ∙ ap (bit_or (w / 2 ^ k % 2)) (elsewhere p k ne) ∙ or_zero_r (w / 2 ^ k % 2))

-- 1 << p in 64 bits
pub shifted : (p : ℕ) → p < 64 → (1 * 2 ^ p) % 18446744073709551616 ≡ 2 ^ p
shifted p l = shl_exact {a = 1} 1 p 64 (omega arith) (omega arith) ∙ one-mul (2 ^ p)

-- ---- the same digits

-- no digit of 0 is set
pub zero-digit : (k : ℕ) → digit 0 k ≡ false
zero-digit k = ap (λ (n : ℕ). eqb (n % 2) 1) (zero-div (2 ^ k))

-- digit 0 is the remainder
first-digit : (w : ℕ) → digit w 0 ≡ eqb (w % 2) 1
first-digit w = ap (λ (n : ℕ). eqb (n % 2) 1) (div-one w)

-- digit k of the half is digit k + 1
half-digit : (w k : ℕ) → digit (w / 2) k ≡ digit w (suc k)
half-digit w k =
    let e : 1 + k ≡ suc k = omega arith in
    ap (λ (n : ℕ). eqb (n % 2) 1) (shr-shr w 1 k ∙ ap (λ (n : ℕ). w / 2 ^ n) e)

half_lt : (n w : ℕ) → w < 2 ^ suc n → w / 2 < 2 ^ n
half_lt n w l = shr_lt n 1 (subst (λ (m : ℕ). w < 2 ^ m) (sym (add-one n)) l)

-- 0 or 1, told apart by being 1
parity : (p q : ℕ) → p < 2 → q < 2 → eqb p 1 ≡ eqb q 1 → p ≡ q
parity zero zero a b e = refl
parity zero (suc q) a b e = absurd (eqb-false (suc q) 1 (sym e) (omega arith))
parity (suc p) zero a b e = absurd (eqb-false (suc p) 1 e (omega arith))
parity (suc p) (suc q) a b e = omega arith

-- 0 or 1, read back from being 1
read_back : (p : ℕ) → p < 2 → p ≡ cond (eqb p 1) 1 0
read_back zero l = refl
read_back (suc zero) l = refl
read_back (suc (suc p)) l = absurd (omega arith)

-- a digit as a number
pub digit-number : (w k : ℕ) → w / 2 ^ k % 2 ≡ cond (digit w k) 1 0
digit-number w k = read_back (w / 2 ^ k % 2) (mod-lt (w / 2 ^ k) (zero-lt-suc 1))

-- two words of n digits that have the same are equal
pub digits-equal : (n v w : ℕ) → v < 2 ^ n → w < 2 ^ n → ((k : ℕ) → k < n → digit v k ≡ digit w k) → v ≡ w
digits-equal zero v w a b e = omega arith
digits-equal (suc n) v w a b e =
    let f : (k : ℕ) → k < n → digit (v / 2) k ≡ digit (w / 2) k = λ k l. half-digit v k ∙ e (suc k) (suc-le-suc l) ∙ sym (half-digit w k) in
    let q : v / 2 ≡ w / 2 = digits-equal n (v / 2) (w / 2) (half_lt n v a) (half_lt n w b) f in
    let r : v % 2 ≡ w % 2 = parity (v % 2) (w % 2) (omega arith) (omega arith) (sym (first-digit v) ∙ e 0 (suc-le-suc zero-le) ∙ first-digit w) in
    omega arith
