-- The word with bit i set; past the words' end nothing is written. Assumes nothing.
use Rattle.arena.proofs.Sets.{inserted, inserted-past}
use Rattle.arena.proofs.handle_set.insert_bit.Goals as goal

pub returns-then-i-marks : goal.returns-then-i-marks
returns-then-i-marks c = inserted c.args.marks.now c.args.i c.if-i-marks.true

pub returns-else-i-marks : goal.returns-else-i-marks
returns-else-i-marks c = inserted-past c.args.marks.now c.args.i c.if-i-marks.false
