-- `adjust::adjust_pool` meets its contract.
-- Assumes nothing.
use mathlib.Core.Path.{sym, ◌∙◌}
use native.Mathlib.Omega.{arith}
use Rattle.definitions.specs.Areas.{numbered}
use Rattle.definitions.proofs.Reading.{width-pos}
use Rattle.adjust.proofs.Stores.{tail-filled}
use Rattle.adjust.proofs.Passes.{packing, run-dropped, run-kept, run_none, packed, packed-count}
use borrow.Author.Rules.{rules}
use Rattle.adjust.proofs.adjust_pool.Goals as goal
use Rattle.adjust.proofs.adjust_pool.Goals.{then-span-ne0+then-kept_at, else-span-ne0}
use Rattle.adjust.proofs.adjust_pool.Goals.{else-span-ne0-via-then-span-ne0+else-kept_at, else-span-ne0-via-else-span-ne0}

pub nonzero_div-h-end : goal.nonzero_div-h-end
nonzero_div-h-end c = let w = width-pos (numbered c.args.area) in omega (arith, c.arena_width-width.ensures)

pub loop-h-init : goal.loop-h-init
loop-h-init c = packing _ _ _ _ _

pub loop-h-preserved : goal.loop-h-preserved
loop-h-preserved c =
    let l = c.loop-h in
    let wide = c.arena_width-width.ensures in
    let s = c.min-span.ensures in
    let count = c.span.ensures in
    elim c.if-span-ne0.branch [
      | then-span-ne0+then-kept_at w ↦
          run-kept _ _ _ _ _ wide _ _ _ _ _ _ l.invariant count s _ _ (sym w.kept_at.ensures ∙ w.if-kept_at.true)
          (w.pool-is ∙ w.adjust_run.ensures) w.to-is
      | else-span-ne0 w ↦ elim w.else-span-ne0.branch [
        | else-span-ne0-via-then-span-ne0+else-kept_at v ↦
            run-dropped _ _ _ _ _ wide _ _ _ _ _ _ l.invariant count s _ _ (sym v.kept_at.ensures ∙ v.if-kept_at.false) w.pool-is w.to-is
        | else-span-ne0-via-else-span-ne0 v ↦ run_none _ _ _ _ _ wide _ _ _ _ _ _ l.invariant count s _ _ v.if-span-ne0.false w.pool-is w.to-is
      ]
    ]

pub returns : goal.returns
returns c =
    let l = c.loop-h in
    let wide = c.arena_width-width.ensures in (
      packed _ _ _ _ _ _ _ _ _ _ wide (omega arith) l.invariant (tail-filled l.pool l.to _ (search rules) (c.fill.ensures.after (λ w e. e))),
      packed-count _ _ _ _ _ _ _ _ _ wide (omega arith) l.invariant,
    )
