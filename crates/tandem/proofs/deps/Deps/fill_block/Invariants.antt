-- The loop's invariant: j entries stand, and `deep` is what the types before the next have.
-- Assumes nothing.
use mathlib.Core.Path.{◌≡◌}
use Prim.Native.Nat.{◌+◌, ◌*◌, ◌<◌}
use Rattle.arena.specs.Lent.{areas_in}
use Rattle.tandem.specs.Deps.{dep_before, Level}
use Rattle.std.proofs.Common.{None}
use Rattle.tandem.proofs.deps.Deps.fill_block.Given as goal

abbrev pub invariant-loop-j : goal.invariant-loop-j
invariant-loop-j l =
    let s = areas_in l.self.m.now in
    (l.self.m ≡ l.fn.self.m)
    × (l.self.n ≡ l.fn.self.n)
    × (l.self.held ≡ None)
    × (l.deep ≡ dep_before s (l.k * 256 + l.j))
    × Level (λ i. i < l.j) (λ i. dep_before s (l.k * 256 + (i + 1))) l.self.block
