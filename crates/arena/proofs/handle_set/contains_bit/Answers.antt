-- The bit as a number is 1 just where it is set. Assumes nothing.
use mathlib.Core.Path.{◌≡◌, refl}
use mathlib.Core.Bool.{Bool, true, false, cond}
use lib.Dec.{eqb}
use Rattle.arena.proofs.handle_set.contains_bit.Goals as goal

is-one : (b : Bool) → eqb (cond b 1 0) 1 ≡ b
is-one true = refl
is-one false = refl

pub returns : goal.returns
returns c = rw c.bit_at.ensures (is-one _)
