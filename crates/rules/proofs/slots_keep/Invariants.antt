-- The loop's invariant: all words keep the rule just where all that are left do.
-- Assumes nothing.
use mathlib.Core.Path.{◌≡◌}
use Prim.Native.Nat.{◌-◌}
use Rattle.definitions.specs.Refusals.{every}
use Rattle.arena.specs.Lent.{areas_in}
use Rattle.slots.specs.Codes.{unpacked, words_from}
use Rattle.rules.specs.Rules.{asked}
use Rattle.rules.proofs.slots_keep.Given as goal

abbrev pub invariant-loop-k : goal.invariant-loop-k
invariant-loop-k l =
    every (asked (areas_in l.m) l.rule) (words_from l.ws l.at) l.k (unpacked l.rest (l.n - l.k))
    ≡ every (asked (areas_in l.m) l.rule) (words_from l.ws l.at) 0 (unpacked l.shape l.n)
