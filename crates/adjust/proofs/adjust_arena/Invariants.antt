-- After h turns the pass stands as `Rewriting` says.
-- Assumes nothing.
use Rattle.definitions.specs.Areas.{numbered}
use Rattle.arena.specs.Lent.{maps_in}
use Rattle.adjust.proofs.Passes.{Rewriting}
use Rattle.adjust.proofs.adjust_arena.Given as goal

abbrev pub invariant-loop-h : goal.invariant-loop-h
invariant-loop-h l =
    Rewriting (maps_in l.maps) (numbered l.area) l.initial.ws l.width l.ws l.start l.to l.h
