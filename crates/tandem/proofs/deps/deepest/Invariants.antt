-- The loop's invariant: `deep` is what the types before t have.
-- Assumes nothing.
use mathlib.Core.Path.{◌≡◌}
use Rattle.arena.specs.Lent.{areas_in}
use Rattle.tandem.specs.Deps.{dep_before}
use Rattle.tandem.proofs.deps.deepest.Given as goal

abbrev pub invariant-loop-t : goal.invariant-loop-t
invariant-loop-t l = l.deep ≡ dep_before (areas_in l.m) l.t
