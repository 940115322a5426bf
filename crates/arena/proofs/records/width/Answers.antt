-- The table is the definition's list. Assumes nothing.
use Rattle.std.proofs.Common.{rules}
use Rattle.definitions.specs.Areas.{width, widths}
use Rattle.arena.proofs.records.width.Goals as goal

pub returns : goal.returns
unfolding widths width
returns c = search rules
