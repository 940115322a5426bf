-- The length of the slice, or 0 past the last. Assumes nothing.
use Rattle.arena.specs.Lent.{areas_in}
use Rattle.arena.proofs.Lent.{length_at, length-past}
use Rattle.arena.proofs.records.length.Goals as goal

pub returns-then-area : goal.returns-then-area
returns-then-area c = length_at c.args.m.now c.args.area c.if-area.true

pub returns : goal.returns
returns c = length-past (areas_in c.args.m.now) c.args.area c.if-area.false
