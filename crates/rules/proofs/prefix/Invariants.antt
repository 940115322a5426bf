-- The loop's invariant: where the types from u on stop, those from t on do.
-- Assumes nothing.
use mathlib.Core.Path.{◌≡◌}
use Prim.Native.Nat.{◌-◌}
use Rattle.arena.specs.Lent.{areas_in}
use Rattle.rules.specs.Rules.{leading}
use Rattle.rules.proofs.prefix.Given as goal

abbrev pub invariant-loop-u : goal.invariant-loop-u
invariant-loop-u l =
    leading (areas_in l.m) l.e l.u (l.n - l.u) ≡ leading (areas_in l.m) l.e l.t (l.n - l.t)
