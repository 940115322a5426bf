-- The loop carries that all mentions so far are good under the two numbers that look at them. Assumes nothing.
use Rattle.std.proofs.Common.{◌≡◌, true, ℕ, ◌<◌}
use Rattle.arena.specs.Lent.{areas_in}
use Rattle.faults.specs.Checking.{ok_at}
use Rattle.faults.proofs.at_once.mentions_pass.Given as goal

abbrev pub invariant-loop-i : goal.invariant-loop-i
invariant-loop-i l = let s = areas_in l.m.areas in (j : ℕ) → j < l.i → (ok_at s 4 7 j ≡ true) × (ok_at s 6 7 j ≡ true)
