-- The loop's invariant: all words are good just where all that are left are.
-- Assumes nothing.
use mathlib.Core.Path.{◌≡◌}
use Prim.Native.Nat.{◌-◌}
use Rattle.definitions.specs.Refusals.{every}
use Rattle.arena.specs.Lent.{areas_in}
use Rattle.slots.specs.Codes.{unpacked, words_from}
use Rattle.rules.specs.Rules.{good_by}
use Rattle.rules.proofs.slots_good.Given as goal

abbrev pub invariant-loop-k : goal.invariant-loop-k
invariant-loop-k l =
    every (good_by (areas_in l.m) l.l) (words_from l.ws l.at) l.k (unpacked l.rest (l.n - l.k)) ≡ every (good_by (areas_in l.m) l.l) (words_from l.ws l.at) 0 (unpacked l.shape l.n)
