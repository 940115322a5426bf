-- The loop carries the counts, the leading types, and that all records so far are good. Assumes nothing.
use Rattle.arena.specs.Lent.{areas_in}
use Rattle.faults.proofs.AtOnce.{Walked}
use Rattle.faults.proofs.at_once.arena_passes.Given as goal

abbrev pub invariant-loop-i : goal.invariant-loop-i
invariant-loop-i l = Walked (areas_in l.m.areas) l.area l.i l.sum l.before
