-- What a proof opens to see the bodies that have one shape.
-- Assumes nothing.
use Prim.Native.Nat.{ℕ}
use Rattle.definitions.specs.Areas.{numbered, width}
use Rattle.definitions.specs.Slots.{body}
use Rattle.definitions.specs.Outcome.{map_of}
use Rattle.adjust.specs.Rewrite.{adjusted_by, init_by, typed_by, record_from}

-- names them all
unfoldable pub opened : ℕ
unfolding numbered width body map_of adjusted_by init_by typed_by record_from
opened = 0
