-- The loop's invariant: the starts of k blocks stand, and `deep` is what the types before block k have.
-- Assumes nothing.
use mathlib.Core.Path.{◌≡◌}
use Prim.Native.Nat.{◌*◌, ◌<◌}
use Rattle.arena.specs.Lent.{areas_in}
use Rattle.tandem.specs.Deps.{dep_before, Level}
use Rattle.tandem.proofs.deps.Deps.fill_starts.Given as goal

abbrev pub invariant-loop-k : goal.invariant-loop-k
invariant-loop-k l =
    let s = areas_in l.self.m.now in
    (l.self.m ≡ l.fn.self.m)
    × (l.self.n ≡ 0)
    × (l.deep ≡ dep_before s (l.k * 256))
    × Level (λ j. j < l.k) (λ j. dep_before s (j * 256)) l.self.starts
