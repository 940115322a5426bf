-- What opens the tables of slots and of codes.
-- Assumes nothing.
use Prim.Native.Nat.{ℕ}
use Rattle.definitions.specs.Areas.{numbered}
use Rattle.definitions.specs.Slots.{fill, body, expr_body, expr_slots, level_slots, query_slots, type_body, type_slots}
use Rattle.slots.specs.Codes.{code_of, packed}

-- the bodies of an area's records, and the shapes of those that have one
unfoldable pub bodies : ℕ
unfolding numbered body fill code_of packed
bodies = 0

-- the bodies of types and expressions, and their shapes
unfoldable pub shapes : ℕ
unfolding type_body type_slots expr_body expr_slots level_slots query_slots fill code_of packed
shapes = 0
