-- The loop carries that all arenas so far pass. Assumes nothing.
use Rattle.std.proofs.Common.{ℕ, ◌<◌}
use Rattle.definitions.specs.Areas.{numbered}
use Rattle.arena.specs.Lent.{areas_in}
use Rattle.faults.specs.Checking.{Passed, Used}
use Rattle.faults.proofs.at_once.passes.Given as goal

abbrev pub invariant-loop-area : goal.invariant-loop-area
invariant-loop-area l = let s = areas_in l.m.areas in (a : ℕ) → a < l.area → Passed s a × Used s (numbered a)
