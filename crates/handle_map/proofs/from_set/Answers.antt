-- `handle_map::from_set` meets its contract.
-- Assumes nothing.
use Prim.Native.Nat.{ℕ}
use native.Mathlib.Omega.{arith}
use borrow.Author.Rules.{rules}
use Rattle.std.proofs.lemmas.List.{length-take}
use Rattle.handle_map.specs.FromSet.{in_set}
use Rattle.handle_map.proofs.Steps.{at_most_one, at-start, next_le, turn}
use Rattle.handle_map.proofs.from_set.Goals as goal

pub loop-h-init : goal.loop-h-init
loop-h-init c = at-start _ _

pub overflow_add-next : goal.overflow_add-next
overflow_add-next c =
    omega (arith, at_most_one _ _ c.bit_at-one.ensures, next_le _ _ _ _ _ c.loop-h.invariant, length-take {A = ℕ})

pub loop-h-preserved : goal.loop-h-preserved
unfolding in_set
loop-h-preserved c = turn _ _ _ _ _ _ _ c.loop-h.invariant (search rules) c.bit_at-one.ensures c.chosen.ensures
