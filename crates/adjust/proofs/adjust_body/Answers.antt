-- `adjust::adjust_body` meets its contract: another body's slots are those of its shape.
-- Assumes nothing.
use mathlib.Core.Path.{ap, ◌∙◌}
use native.Mathlib.Omega.{arith}
use lib.Seq.{sets}
use Rattle.definitions.specs.Areas.{numbered}
use Rattle.slots.specs.Codes.{words_from}
use Rattle.slots.proofs.Laws.{body-shape}
use Rattle.arena.specs.Lent.{maps_in}
use Rattle.adjust.specs.Rewrite.{record_from}
use Rattle.adjust.proofs.adjust_body.Goals as goal

pub returns-in_default : goal.returns-in_default
returns-in_default c =
    let a = c.args in
    let f = words_from a.ws.now a.shift.from in
    c.adjust_record.ensures
    ∙ ap (λ ls. sets a.ws.now a.shift.to (record_from (maps_in a.maps.now) a.start f 0 ls)) (body-shape (numbered a.area) f _ a.n c.shape-shape.ensures (omega arith))
