-- A shape holds the slots that it was packed of, where each has a code; and each slot of a body has one.
-- Assumes nothing.
use mathlib.Core.Path.{◌≡◌, refl, sym, ap, ap₂, subst, ◌∙◌}
use mathlib.Core.Bool.{Bool}
use mathlib.Core.List.{List, [], ◌∷◌}
use Prim.Native.Nat.{ℕ, zero, suc, ◌+◌, ◌*◌, ◌/◌, ◌%◌, ◌≤◌}
use native.Mathlib.Decide.{ℕ_discrete}
use native.Mathlib.Nat.{le_of_suc-le-suc, not-suc-le-zero}
use native.Mathlib.Omega.{arith}
use lib.Dec.{T, leb, leb→le}
use lib.ListN.{length, get_or}
use borrow.Author.Tests.{ne_eqb}
use Rattle.definitions.specs.Lists.{all}
use Rattle.definitions.specs.Areas.{Arena, types, constants, overrides, globals, expressions}
use Rattle.definitions.specs.Slots.{Slot, unused, free, below, must, may, start, count, fill, body, type_body, type_slots, expr_body, expr_slots, level_slots, query_slots, form_of}
use Rattle.definitions.proofs.Least.{and_left, and_right}
use Rattle.definitions.proofs.Least.{both}
use Rattle.slots.specs.Codes.{codes, decoded, code_of, packed, unpacked}

-- has the slot a code ?
abbrev coded : Slot → Bool
coded l = leb (code_of l) 12

-- a code stands for the slot whose code it is
decoded-code : (l : Slot) → T (coded l) → decoded (code_of l) ≡ l
unfolding code_of decoded codes
decoded-code unused t = refl
decoded-code free t = refl
decoded-code (below n) t = elim (ℕ_discrete n 2) [
  | yes e ↦ at_bound e refl
  | no a ↦ elim (ℕ_discrete n 4) [
    | yes e ↦ at_bound e refl
    | no b ↦ elim (ℕ_discrete n 5) [
      | yes e ↦ at_bound e refl
      | no c ↦ elim (ℕ_discrete n 34) [
        | yes e ↦ at_bound e refl
        | no d ↦ absurd (rw (ne_eqb n 2 a, ne_eqb n 4 b, ne_eqb n 5 c, ne_eqb n 34 d) at t)
      ]
    ]
  ]
]
  where
    at_bound : {m : ℕ} → n ≡ m → decoded (code_of (below m)) ≡ below m → decoded (code_of (below n)) ≡ below n
    at_bound e = subst (λ k. decoded (code_of (below k)) ≡ below k) (sym e)
decoded-code (must types) t = refl
decoded-code (must constants) t = refl
decoded-code (must overrides) t = refl
decoded-code (must globals) t = absurd t
decoded-code (must expressions) t = refl
decoded-code (may types) t = absurd t
decoded-code (may constants) t = absurd t
decoded-code (may overrides) t = absurd t
decoded-code (may globals) t = absurd t
decoded-code (may expressions) t = refl
decoded-code start t = refl
decoded-code count t = refl

-- the slots that a shape was packed of, and unused ones after them
packed-slots : (l : List Slot) (n : ℕ) → T (all coded l) → length l ≤ n → unpacked (packed l) n ≡ fill n l
unfolding all packed unpacked fill decoded codes
packed-slots [] zero t h = refl
packed-slots [] (suc n) t h = ap (λ r. unused ∷ r) (packed-slots [] n t (omega arith))
packed-slots (x ∷ l) zero t h = absurd (not-suc-le-zero h)
packed-slots (x ∷ l) (suc n) t h =
    let c : code_of x ≤ 12 = leb→le _ _ (and_left (coded x) (all coded l) t) in
    let low : (code_of x + 16 * packed l) % 16 ≡ code_of x = omega arith in
    let high : (code_of x + 16 * packed l) / 16 ≡ packed l = omega arith in
    ap₂ (λ r s. decoded r ∷ unpacked s n) low high
    ∙ ap₂ ◌∷◌ (decoded-code x (and_left (coded x) (all coded l) t)) (packed-slots l n (and_right (coded x) (all coded l) t) (le_of_suc-le-suc h))

fill-coded : (n : ℕ) (l : List Slot) → T (all coded l) → T (all coded (fill n l))
unfolding all fill code_of
fill-coded zero l t = tt
fill-coded (suc n) [] t = fill-coded n [] t
fill-coded (suc n) (x ∷ l) t =
    both (coded x) (all coded (fill n l)) (and_left (coded x) (all coded l) t) (fill-coded n l (and_right (coded x) (all coded l) t))

row-coded : (ls : List (List Slot)) (k : ℕ) → T (all (all coded) ls) → T (all coded (get_or ls k []))
unfolding all
row-coded [] k t = tt
row-coded (l ∷ ls) zero t = and_left (all coded l) (all (all coded) ls) t
row-coded (l ∷ ls) (suc k) t = row-coded ls k (and_right (all coded l) (all (all coded) ls) t)

rows-coded : (form : ℕ) → T (all (all coded) (expr_slots form))
unfolding all code_of expr_slots level_slots query_slots
rows-coded zero = tt
rows-coded (suc zero) = tt
rows-coded (suc (suc zero)) = tt
rows-coded (suc (suc (suc zero))) = tt
rows-coded (suc (suc (suc (suc zero)))) = tt
rows-coded (suc (suc (suc (suc (suc form))))) = tt

body-coded : (a : Arena) (f : ℕ → ℕ) → T (all coded (body a f))
unfolding all code_of body type_body type_slots expr_body
body-coded types f = fill-coded 2 _ (row-coded type_slots (f 0) tt)
body-coded constants f = tt
body-coded overrides f = tt
body-coded globals f = tt
body-coded expressions f = fill-coded 9 _ (row-coded (expr_slots (form_of f)) (f 0) (rows-coded (form_of f)))

-- the shape of a body holds its slots
pub packed-body : (a : Arena) (f : ℕ → ℕ) {v : ℕ} (n : ℕ) → v ≡ packed (body a f) → length (body a f) ≤ n → unpacked v n ≡ fill n (body a f)
packed-body a f n e h = ap (λ w. unpacked w n) e ∙ packed-slots (body a f) n (body-coded a f) h
