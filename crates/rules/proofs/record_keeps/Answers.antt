-- `rules::record_keeps` meets its contract: what the rule asks of all words it asks of the slots that the shape names.
-- Assumes nothing.
use mathlib.Core.Path.{sym, ap, ◌∙◌}
use native.Mathlib.Omega.{arith}
use Rattle.definitions.specs.Areas.{numbered}
use Rattle.definitions.specs.Slots.{slots, layout}
use Rattle.definitions.specs.Refusals.{every}
use Rattle.arena.specs.Lent.{areas_in}
use Rattle.slots.specs.Codes.{words_from}
use Rattle.slots.proofs.Laws.{every_body, tail-fits}
use Rattle.rules.specs.Rules.{asked}
use Rattle.rules.proofs.Every.{tail-kept}
use Rattle.slots.proofs.Places.{place-fits, record-words}
use Rattle.rules.proofs.record_keeps.Goals as goal

pub overflow_mul-at : goal.overflow_mul-at
overflow_mul-at c =
    let a = c.args in
    place-fits (numbered a.area) a.i _ (omega arith) c.arena_width-width.ensures

pub overflow_sub-width : goal.overflow_sub-width
overflow_sub-width c = omega (arith, c.arena_width-width.ensures, tail-fits (numbered c.args.area))

pub returns : goal.returns
unfolding layout
returns c =
    let a = c.args in
    let ws = c.arena_words-ws in
    let w = c.arena_width-width.ensures in
    let s = areas_in a.m.now in
    let p = asked s a.rule in
    c.slots_keep.ensures
    ∙ sym
    (every_body p (words_from ws.result.now _) (tail-kept _ _) (numbered a.area) _ _ c.shape.ensures
    (omega (arith, w, tail-fits (numbered a.area))))
    ∙ ap (λ f. every p f 0 (slots (numbered a.area) f)) (record-words s (numbered a.area) a.i ws.ensures w)
