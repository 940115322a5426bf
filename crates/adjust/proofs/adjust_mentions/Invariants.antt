-- The first h mentions are adjusted.
-- Assumes nothing.
use Rattle.arena.specs.Lent.{maps_in}
use Rattle.adjust.proofs.Passes.{Renaming}
use Rattle.adjust.proofs.adjust_mentions.Given as goal

abbrev pub invariant-loop-h : goal.invariant-loop-h
invariant-loop-h l = Renaming (maps_in l.maps) l.initial.mentions l.mentions l.h
