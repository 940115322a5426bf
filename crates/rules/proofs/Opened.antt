-- What opens the definitions that several contracts cite.
-- Assumes nothing.
use Prim.Native.Nat.{ℕ}
use Rattle.definitions.specs.Lists.{all}
use Rattle.definitions.specs.Areas.{numbered}
use Rattle.definitions.specs.Slots.{body}
use Rattle.definitions.specs.References.{named_by}
use Rattle.definitions.specs.Order.{with_behind}
use Rattle.definitions.specs.Refusals.{every}
use Rattle.slots.specs.Codes.{codes, decoded}
use Rattle.rules.specs.Rules.{held_by, asked, fit_by, good_by}

-- what is asked of a word under numbers 6 and 7
unfoldable pub asks : ℕ
unfolding asked held_by named_by with_behind all
asks = 0

-- what is asked of a word at once, by its code or in a body of one shape
unfoldable pub good : ℕ
unfolding decoded codes numbered body every good_by fit_by
good = 0
