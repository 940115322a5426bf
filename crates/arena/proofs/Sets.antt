-- Sets of bits: what the words hold after a bit is set and after they are emptied; and words that hold the same set are the same.
-- Assumes nothing.
use mathlib.Core.Path.{◌≡◌, refl, ap, sym, subst, ◌∙◌}
use mathlib.Core.Bool.{false}
use mathlib.Core.List.{List, ◌++◌, append-nil}
use Prim.Native.Nat.{ℕ, zero, suc, ◌+◌, ◌*◌, ◌/◌, ◌%◌, ◌^◌, ◌≤◌, ◌<◌}
use native.Mathlib.Decide.{ℕ_discrete}
use native.Mathlib.Omega.{arith}
use lib.ListN.{length, get_or, set, drop, replicate, length-set, length-replicate, get_or-eq_default}
use lib.Seq.{get_or-set_same, get_or-set_other, drop-length, ext_get_or}
use lib.Bits.{bit_or}
use borrow.Author.Tests.{lt-ltb, le-ltb}
use Rattle.arena.specs.HandleSet.{digit, member, room, Inserted, Cleared}
use Rattle.arena.proofs.Digits.{set_here, set-elsewhere, shifted, zero-digit, digits-equal}

-- no number past the words' end is in the set
pub member-past : (ws : List ℕ) (i : ℕ) → room ws ≤ i → member ws i ≡ false
unfolding member
member-past ws i l =
    let g : length ws ≤ i / 64 = omega arith in
    ap (λ (w : ℕ). digit w (i % 64)) (get_or-eq_default ws 0 g) ∙ zero-digit (i % 64)

-- past the end nothing changes
pub inserted-past : (ws : List ℕ) (i : ℕ) → length ws ≤ i / 64 → Inserted ws i ws
inserted-past ws i l =
    let g : room ws ≤ i = omega arith in
    record { as_long = refl; put = member-past ws i g ∙ sym (le-ltb i (room ws) g); others = λ j ne. refl }

-- within, the word with the bit set
pub inserted : (ws : List ℕ) (i : ℕ) → i / 64 < length ws
    → Inserted ws i (set ws (i / 64) (bit_or (get_or ws (i / 64) 0) ((1 * 2 ^ (i % 64)) % 18446744073709551616)))
unfolding member
inserted ws i l =
    let w : ℕ = get_or ws (i / 64) 0 in
    let p : ℕ = i % 64 in
    let v : ℕ = bit_or w ((1 * 2 ^ p) % 18446744073709551616) in
    let e : get_or (set ws (i / 64) v) (i / 64) 0 ≡ bit_or w (2 ^ p) = get_or-set_same ws (i / 64) v 0 l ∙ ap (bit_or w) (shifted p (omega arith)) in
    record {
      as_long = length-set ws (i / 64) v;
      put = ap (λ (n : ℕ). digit n p) e ∙ set_here w p ∙ sym (lt-ltb i (room ws) (omega arith));
      others = λ j ne.
          elim (ℕ_discrete (j / 64) (i / 64)) [
            | yes q ↦
                ap (λ (n : ℕ). digit (get_or (set ws (i / 64) v) n 0) (j % 64)) q
                ∙ ap (λ (n : ℕ). digit n (j % 64)) e
                ∙ set-elsewhere w p (j % 64) (λ r. ne (omega arith))
                ∙ ap (λ (n : ℕ). digit (get_or ws n 0) (j % 64)) (sym q)
            | no q ↦ ap (λ (n : ℕ). digit n (j % 64)) (get_or-set_other ws (i / 64) (j / 64) v 0 q)
          ];
    }

-- nothing is in words of 0
zeros : (n k : ℕ) → ◌≡◌ {A = ℕ} (get_or (replicate n 0) k 0) 0
zeros zero k = refl
zeros (suc n) zero = refl
zeros (suc n) (suc k) = zeros n k

pub cleared : (ws : List ℕ) → Cleared ws (replicate (length ws) 0)
unfolding member
cleared ws = record {
  as_long = length-replicate (length ws) 0;
  none = λ j. ap (λ (w : ℕ). digit w (j % 64)) (zeros (length ws) (j / 64)) ∙ zero-digit (j % 64);
}

-- all the words passed, and none left
pub filled : (vs ws : List ℕ) (i : ℕ) → i ≡ length vs → ws ≡ replicate i 0 ++ drop i vs → Cleared vs ws
filled vs ws i e q =
    subst (Cleared vs)
    (sym (q ∙ ap (λ (k : ℕ). replicate k 0 ++ drop k vs) e ∙ ap (λ (l : List ℕ). replicate (length vs) 0 ++ l) (drop-length vs) ∙ append-nil (replicate (length vs) 0)))
    (cleared vs)

-- each is a 64-bit word
abbrev pub Fit : List ℕ → Type 0
Fit ws = (k : ℕ) → get_or ws k 0 < 2 ^ 64

-- bit j of word k
member-at : (ws : List ℕ) (k j : ℕ) → j < 64 → member ws (k * 64 + j) ≡ digit (get_or ws k 0) j
unfolding member
member-at ws k j l =
    let q : (k * 64 + j) / 64 ≡ k = omega arith in
    let r : (k * 64 + j) % 64 ≡ j = omega arith in
    ap (λ (n : ℕ). digit (get_or ws n 0) ((k * 64 + j) % 64)) q ∙ ap (digit (get_or ws k 0)) r

-- words of the same length with the same members are the same
pub words-equal : (vs ws : List ℕ) → Fit vs → Fit ws → length vs ≡ length ws → ((i : ℕ) → member vs i ≡ member ws i) → vs ≡ ws
words-equal vs ws fv fw l e =
    ext_get_or 0 vs ws l
    (λ k _. digits-equal 64 (get_or vs k 0) (get_or ws k 0) (fv k) (fw k)
    (λ j g. sym (member-at vs k j g) ∙ e (k * 64 + j) ∙ member-at ws k j g))
