-- `slots::shapes::expression_shape` meets its contract: at each kind of a range the shape is that of the table's row.
-- Assumes nothing.
use mathlib.Core.Path.{◌≡◌, refl, sym, ap}
use mathlib.Core.List.{List, [], ◌∷◌}
use Prim.Native.Nat.{ℕ, ◌≤◌}
use native.Mathlib.Decide.{dec_le}
use native.Mathlib.Omega.{arith}
use lib.ListN.{get_or-eq_default}
use Rattle.definitions.specs.Slots.{below, fill, expr_body, expr_slots}
use Rattle.slots.specs.Codes.{packed}
use Rattle.slots.proofs.Decision.{NoneOf, in-range}
use Rattle.slots.proofs.Tables.{shapes}
use Rattle.slots.proofs.shapes.expression_shape.Goals as goal

-- the keys of the arms, the last first
abbrev keys : List (List ℕ)
keys = (24 ∷ []) ∷ (21 ∷ 33 ∷ []) ∷ (17 ∷ []) ∷ (16 ∷ []) ∷ (15 ∷ []) ∷ (13 ∷ 27 ∷ []) ∷ (9 ∷ 20 ∷ 32 ∷ []) ∷ (8 ∷ []) ∷ (7 ∷ []) ∷ (6 ∷ []) ∷ (5 ∷ []) ∷ []

-- the shape v is that of kind k
abbrev Right : ℕ → ℕ → ℕ → Type 0
Right v form k = v ≡ packed (expr_body k form)

-- past the other arms no kind from 32 on has a slot
past-table : (form k : ℕ) → NoneOf keys k → 32 ≤ k → Right 12 form k
unfolding shapes
past-table form k n l = elim (dec_le 34 k) [
  | yes h ↦ ap (λ r. packed (below 34 ∷ fill 9 r)) (sym (get_or-eq_default (expr_slots form) [] h))
  | no h ↦ in-range (Right 12 form) keys 32 2 (tt, (tt, tt)) k n l (omega arith)
]

pub returns-in_default : goal.returns-in_default
unfolding shapes
returns-in_default c = in-range (Right _ c.args.form) keys 5 22 (tt, (tt, (tt, (tt, (tt, (refl, (refl, (refl, (tt, (refl, (tt, (tt, (tt, (refl, (refl, (tt, (tt, (refl, (refl, (tt, (refl, (refl, tt)))))))))))))))))))))) _ c.in_default.in_default-own.rest (omega arith) (omega arith)

pub returns-in-0-to-4-2 : goal.returns-in-0-to-4-2
returns-in-0-to-4-2 c = past-table c.args.form _ c.in-0-to-4.in_default-own.rest c.in-0-to-4.if-kind-lt32-own.false

pub returns-in-7-2 : goal.returns-in-7-2
unfolding shapes
returns-in-7-2 c = in-range (Right _ c.args.form) keys 27 4 (tt, (refl, (refl, (refl, tt)))) _ c.in-7.in_default-own.rest (omega arith) (omega arith)
