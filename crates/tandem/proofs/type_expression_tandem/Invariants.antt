-- The loop's invariant: the first level is filled for all types, and a pass over what is left completes the whole.
-- Assumes nothing.
use mathlib.Core.Path.{◌≡◌}
use mathlib.Core.List.{List}
use Prim.Native.Nat.{ℕ, ◌-◌, ◌≤◌}
use Rattle.arena.specs.Lent.{areas_in}
use Rattle.tandem.specs.declared.Left.{Left}
use Rattle.tandem.proofs.Turns.{Pass}
use Rattle.tandem.proofs.type_expression_tandem.Given as goal

abbrev pub invariant-loop : goal.invariant-loop
invariant-loop l =
    (l.deps.m.now ≡ l.m)
    × (l.deps.n ≡ l.fn.all.types)
    × (l.rest.types ≤ l.fn.all.types)
    × ((r : Left) (u : List ℕ) → Pass (areas_in l.m) l.b l.rest (l.budget - l.counter) l.marks r u
    → Pass (areas_in l.m) l.b l.fn.all l.budget l.initial.marks r u)
