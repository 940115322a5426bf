-- `adjust::adjust_arena` meets its contract.
-- Assumes nothing.
use mathlib.Core.Path.{sym, ap, ◌∙◌}
use native.Mathlib.Omega.{arith}
use Rattle.definitions.specs.Areas.{numbered}
use Rattle.definitions.specs.Outcome.{map_of}
use Rattle.definitions.proofs.Reading.{width-pos}
use Rattle.adjust.proofs.Passes.{rewriting, record-dropped, record-kept, rewritten}
use Rattle.adjust.proofs.adjust_arena.Goals as goal
use Rattle.adjust.proofs.adjust_arena.Goals.{then-kept_at, else-kept_at}

pub nonzero_div-h-end : goal.nonzero_div-h-end
nonzero_div-h-end c = let w = width-pos (numbered c.args.area) in omega (arith, c.arena_width-width.ensures)

pub loop-h-init : goal.loop-h-init
loop-h-init c = rewriting _ _ _ _

pub loop-h-preserved : goal.loop-h-preserved
loop-h-preserved c =
    let l = c.loop-h in
    let wide = c.arena_width-width.ensures in
    let mine = c.map_of-own.ensures ∙ ap (map_of _) c.arena_at.ensures in
    let kept = sym c.kept_at.ensures in
    elim c.if-kept_at.branch [
      | then-kept_at w ↦
          record-kept _ _ _ _ wide _ mine _ _ _ _ (omega arith) l.invariant _ _ _ _ (kept ∙ w.if-kept_at.true) w.span-span.ensures
          (w.ws-is ∙ w.adjust_kept.ensures) (w.start-is ∙ w.capped-start.ensures) w.to-is
      | else-kept_at w ↦
          record-dropped _ _ _ _ wide _ mine _ _ _ _ (omega arith) l.invariant _ _ _ (kept ∙ w.if-kept_at.false) w.ws-is w.start-is w.to-is
    ]

pub returns : goal.returns
returns c =
    let l = c.loop-h in
    rewritten _ _ _ _ _ _ _ _ _ c.arena_width-width.ensures (omega arith) l.invariant c.free_records.ensures
