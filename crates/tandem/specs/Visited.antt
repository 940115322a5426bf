-- One visit of the tandem.
-- Assumes nothing.
use Rattle.std.specs.Prelude.{◌≡◌, List, ◌∷◌, ℕ, ◌≤◌}
use Rattle.definitions.specs.Areas.{Areas, Elem}
use Rattle.definitions.specs.Order.{visits}
use Rattle.arena.specs.declared.handle_set.Bases.{Bases}
use Rattle.trace.specs.Bits.{Visited}
use Rattle.tandem.specs.declared.Left.{Left}

-- the visits that are left
abbrev pub ahead : Areas → Left → List Elem
ahead s l = visits s l.types l.expressions

-- the first of those that were left is made, and the others are left
pub record OneVisit (s : Areas) (b : Bases) (left rest : Left) (before after : List ℕ) : Type 0 where
  pub element : Elem
  pub next : ahead s left ≡ element ∷ ahead s rest
  pub marked : Visited s b element before after
  pub fewer : rest.types ≤ left.types
