-- After h turns the pass stands as `Packing` says.
-- Assumes nothing.
use Rattle.definitions.specs.Areas.{numbered}
use Rattle.adjust.proofs.Passes.{Packing}
use Rattle.adjust.proofs.adjust_pool.Given as goal

abbrev pub invariant-loop-h : goal.invariant-loop-h
invariant-loop-h l = Packing l.own (numbered l.area) l.ws l.initial.pool l.width l.pool l.from l.to l.h
