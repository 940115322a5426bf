-- An arena by its area's number: past 3 it is the expressions.
-- Assumes nothing.
use mathlib.Core.Path.{◌≡◌, refl}
use mathlib.Core.List.{List, [], ◌∷◌}
use Prim.Native.Nat.{ℕ, zero, suc, ◌≤◌}
use native.Mathlib.Omega.{arith}
use Rattle.definitions.specs.Areas.{numbered, expressions}
use Rattle.slots.proofs.Decision.{NoneOf}

-- the numbers of the arms, the last first
abbrev pub first_four : List (List ℕ)
first_four = (3 ∷ []) ∷ (2 ∷ []) ∷ (1 ∷ []) ∷ (0 ∷ []) ∷ []

-- an area past 3 is read as the expressions
pub from-four : (area : ℕ) → 4 ≤ area → numbered area ≡ expressions
unfolding numbered
from-four zero l = absurd (omega arith)
from-four (suc zero) l = absurd (omega arith)
from-four (suc (suc zero)) l = absurd (omega arith)
from-four (suc (suc (suc zero))) l = absurd (omega arith)
from-four (suc (suc (suc (suc zero)))) l = refl
from-four (suc (suc (suc (suc (suc a))))) l = refl

pub past_three : (area : ℕ) → NoneOf first_four area → numbered area ≡ expressions
past_three area n = from-four area (omega (arith, n.0.0.0.1, n.0.0.1, n.0.1, n.1))
