-- `tandem::type_expression_tandem` meets its contract.
-- Assumes nothing.
use mathlib.Core.Logic.{inl, inr}
use native.Mathlib.Omega.{arith}
use Rattle.tandem.proofs.Turns.{one-more, at-end}
use Rattle.tandem.proofs.type_expression_tandem.Goals as goal

pub loop-preserved : goal.loop-preserved
loop-preserved c = (cc, cc, omega (arith, c.visit-rest.ensures.fewer, c.loop.invariant.2), λ r u p. c.loop.invariant.3 r u (one-more _ _ r _ _ (omega arith) c.visit-rest.ensures p))

pub returns-then-rest-eq0-2 : goal.returns-then-rest-eq0-2
returns-then-rest-eq0-2 c = c.loop.invariant.3 _ _ (at-end _ _ _ _ (inr (omega arith)))

pub returns-after-loop : goal.returns-after-loop
returns-after-loop c = c.loop.invariant.3 _ _ (at-end _ _ _ _ (inl (omega arith)))
