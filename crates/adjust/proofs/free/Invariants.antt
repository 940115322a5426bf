-- After h turns the words before the place of number h stand as they are to.
-- Assumes nothing.
use Prim.Native.Nat.{◌+◌, ◌*◌}
use Rattle.adjust.proofs.Stores.{Freeing}
use Rattle.adjust.proofs.free.Given as goal

abbrev pub invariant-loop-h : goal.invariant-loop-h
invariant-loop-h l = Freeing l.initial.ws l.ws l.from (l.from + l.h * l.width)
