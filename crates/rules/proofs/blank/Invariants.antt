-- The loop's invariant: all words are N just where all that are left are.
-- Assumes nothing.
use mathlib.Core.Path.{◌≡◌}
use Prim.Native.Nat.{◌-◌}
use Rattle.definitions.specs.Refusals.{every}
use Rattle.slots.specs.Codes.{unpacked, words_from}
use Rattle.rules.specs.Rules.{empty}
use Rattle.rules.proofs.blank.Given as goal

abbrev pub invariant-loop-i : goal.invariant-loop-i
invariant-loop-i l = every empty (words_from l.ws l.at) l.i (unpacked 0 (l.n - l.i)) ≡ every empty (words_from l.ws l.at) l.k (unpacked 0 (l.n - l.k))
