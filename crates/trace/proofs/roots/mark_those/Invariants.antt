-- The loop's invariant: the roots among the first i records are marked.
-- Assumes nothing.
use Rattle.definitions.specs.Areas.{numbered}
use Rattle.arena.specs.Lent.{areas_in}
use Rattle.trace.specs.Bits.{Marked, those_in}
use Rattle.trace.proofs.roots.mark_those.Given as goal

abbrev pub invariant-loop-i : goal.invariant-loop-i
invariant-loop-i l = Marked (areas_in l.m) l.b (those_in (areas_in l.m) (numbered l.area) l.i) l.initial.marks l.marks
