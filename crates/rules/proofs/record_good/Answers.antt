-- `rules::record_good` meets its contract: the slots of a body with more than one shape are those of its shape.
-- Assumes nothing.
use mathlib.Core.Path.{ap, ◌∙◌}
use native.Mathlib.Omega.{arith}
use Rattle.definitions.specs.Areas.{numbered}
use Rattle.definitions.specs.Refusals.{every}
use Rattle.arena.specs.Lent.{areas_in}
use Rattle.slots.specs.Codes.{words_from}
use Rattle.slots.proofs.Laws.{body-shape, tail-fits}
use Rattle.rules.specs.Rules.{good_by}
use Rattle.rules.proofs.record_good.Goals as goal

pub overflow_sub-arena_width : goal.overflow_sub-arena_width
overflow_sub-arena_width c = omega (arith, c.arena_width.ensures, tail-fits (numbered c.args.area))

pub returns-in_default : goal.returns-in_default
returns-in_default c =
    let a = c.args in
    let f = words_from a.ws.now a.at in
    c.slots_good.ensures
    ∙ ap (every (good_by (areas_in a.m.now) a.l) f 0)
    (body-shape (numbered a.area) f _ _ c.shape.ensures (omega (arith, c.arena_width.ensures, tail-fits (numbered a.area))))
