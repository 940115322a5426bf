-- After h turns the map of the first h records stands, and so many of them are kept.
-- Assumes nothing.
use Rattle.handle_map.specs.FromSet.{in_set}
use Rattle.handle_map.proofs.Steps.{Numbered}
use Rattle.handle_map.proofs.from_set.Given as goal

abbrev pub invariant-loop-h : goal.invariant-loop-h
invariant-loop-h l = Numbered (in_set l.marks l.base) l.initial.word-items l.word-items l.next l.h
