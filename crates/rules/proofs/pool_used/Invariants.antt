-- The loop's invariant: what is left of the pool and the counts so far are the pool.
-- Assumes nothing.
use mathlib.Core.Path.{◌≡◌}
use Prim.Native.Nat.{◌+◌}
use lib.ListN.{length}
use Rattle.definitions.specs.Areas.{numbered, pool}
use Rattle.definitions.specs.Refusals.{runs_before}
use Rattle.arena.specs.Lent.{areas_in}
use Rattle.rules.proofs.pool_used.Given as goal

abbrev pub invariant-loop-i : goal.invariant-loop-i
invariant-loop-i l = l.left + runs_before (areas_in l.m) (numbered l.area) l.i ≡ length (pool (areas_in l.m) (numbered l.area))
