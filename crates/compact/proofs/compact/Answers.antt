-- `compact` meets its contract: one law for each return, over what the stages leave.
-- Assumes nothing.
use mathlib.Core.Path.{◌∙◌}
use native.Mathlib.Omega.{arith}
use borrow.Author.Rules.{rules}
use Rattle.std.proofs.lemmas.Result.{err_from_is_err_and}
use Rattle.definitions.specs.Areas.{area_number, limits, all_records, marks_words}
use Rattle.compact.proofs.Close.{refused-closes, words-few, is-yes, accepted-closes}
use Rattle.compact.proofs.compact.Goals as goal

pub judge-requires : goal.judge-requires
unfolding marks_words all_records limits area_number
judge-requires c = search rules

pub returns-in_err-z : goal.returns-in_err-z
returns-in_err-z c =
    let r = err_from_is_err_and c.from_residual.result c.from_residual.ensures.1 in
    rw (r.1, r.2) (refused-closes _ _ _ c.judge.ensures c.in_err-z.was)

pub overflow_cast-result : goal.overflow_cast-result
overflow_cast-result c = omega (arith, words-few _ _ c.judge.ensures c.in_ok-z.was c.number-kept.ensures c.rewrite-pools.ensures)

pub overflow_cast-result-2 : goal.overflow_cast-result-2
overflow_cast-result-2 c = omega (arith, words-few _ _ c.judge.ensures c.in_ok-z.was c.number-kept.ensures c.rewrite-pools.ensures)

pub returns : goal.returns
returns c =
    accepted-closes _ _ c.judge.ensures c.in_ok-z.was c.number-kept.ensures
    c.rewrite-pools.ensures (c.eq.ensures ∙ is-yes c.args.keep_unused)
