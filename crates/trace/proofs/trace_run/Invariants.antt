-- The loop's invariant: the first handles are put in.
-- Assumes nothing.
use mathlib.Core.List.{map}
use lib.ListN.{take}
use Rattle.definitions.specs.Areas.{at, numbered}
use Rattle.arena.specs.HandleSet.{bit}
use Rattle.trace.specs.Bits.{Put}
use Rattle.trace.proofs.trace_run.Given as goal

abbrev pub invariant-loop-h : goal.invariant-loop-h
invariant-loop-h l = Put (map (bit l.b) (map (at (numbered l.area)) (take l.h-index l.run))) l.initial.marks l.marks
