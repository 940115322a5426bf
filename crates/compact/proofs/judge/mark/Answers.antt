-- `judge::mark` meets its contract: emptied words, the roots, then every visit.
-- Assumes nothing.
use Rattle.compact.proofs.Marking.{marking}
use Rattle.compact.proofs.judge.mark.Goals as goal

pub returns : goal.returns
returns c =
    marking _ c.requires.accepts c.args.keep _ _ c.of-z.ensures c.of-b.ensures c.requires.marks_value
    c.mark_roots.ensures c.type_expression_tandem.ensures.1
