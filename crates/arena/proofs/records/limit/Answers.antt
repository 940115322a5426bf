-- The table is the definition's list. Assumes nothing.
use Rattle.std.proofs.Common.{rules}
use Rattle.definitions.specs.Areas.{limits}
use Rattle.arena.proofs.records.limit.Goals as goal

pub returns : goal.returns
unfolding limits
returns c = search rules
