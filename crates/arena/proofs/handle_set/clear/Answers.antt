-- Every word is 0. Assumes nothing.
use Rattle.arena.proofs.Sets.{cleared}
use Rattle.arena.proofs.handle_set.clear.Goals as goal

pub returns : goal.returns
returns c = rw c.fill.ensures.after (cleared c.args.marks.now)
