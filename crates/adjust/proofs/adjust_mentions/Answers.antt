-- `adjust::adjust_mentions` meets its contract.
-- Assumes nothing.
use native.Mathlib.Omega.{arith}
use Rattle.adjust.proofs.Passes.{renaming, mention-renamed, renamed}
use Rattle.adjust.proofs.adjust_mentions.Goals as goal

pub loop-h-init : goal.loop-h-init
loop-h-init c = renaming _ _

pub loop-h-preserved : goal.loop-h-preserved
loop-h-preserved c =
    let l = c.loop-h in
    mention-renamed _ _ _ _ (omega arith) l.invariant _ _ c.arena_at-arena.ensures c.word_after.ensures

pub returns : goal.returns
returns c = let l = c.loop-h in renamed _ _ _ _ (omega arith) l.invariant
