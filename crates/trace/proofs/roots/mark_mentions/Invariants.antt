-- The loop's invariant: what the first i mentions name is marked.
-- Assumes nothing.
use mathlib.Core.List.{map}
use Rattle.definitions.specs.Lists.{count_up}
use Rattle.definitions.specs.Roots.{mention}
use Rattle.arena.specs.Lent.{areas_in}
use Rattle.trace.specs.Bits.{Marked}
use Rattle.trace.proofs.roots.mark_mentions.Given as goal

abbrev pub invariant-loop-i : goal.invariant-loop-i
invariant-loop-i l = Marked (areas_in l.m) l.b (map (mention (areas_in l.m)) (count_up 0 l.i)) l.initial.marks l.marks
