-- `rules::pool_used` meets its contract.
-- Assumes nothing.
use mathlib.Core.Path.{sym}
use Prim.Native.Nat.{◌+◌}
use native.Mathlib.Omega.{arith}
use borrow.Author.Tests.{ne_eqb}
use Rattle.definitions.specs.Areas.{numbered}
use Rattle.arena.specs.Lent.{areas_in}
use Rattle.slots.proofs.Places.{place-fits, record-span}
use Rattle.rules.proofs.Steps.{runs_step, runs_mono}
use Rattle.rules.proofs.pool_used.Goals as goal

pub overflow_mul-i : goal.overflow_mul-i
overflow_mul-i c = place-fits (numbered c.args.area) c.loop-i.i _ (omega arith) c.arena_width-width.ensures

pub returns-then-left-span : goal.returns-then-left-span
returns-then-left-span c =
    let s = areas_in c.args.m.now in
    let own = numbered c.args.area in
    let i = c.loop-i.i in
    let e = record-span s own i c.arena_words-ws.ensures c.arena_width-width.ensures c.span-span.ensures in
    sym (ne_eqb _ _ (λ q. omega (arith, runs_step s own i, runs_mono s own (i + 1) c.args.n (omega arith))))

pub loop-i-preserved : goal.loop-i-preserved
loop-i-preserved c =
    let s = areas_in c.args.m.now in
    let own = numbered c.args.area in
    let i = c.loop-i.i in
    let e = record-span s own i c.arena_words-ws.ensures c.arena_width-width.ensures c.span-span.ensures in
    omega (arith, runs_step s own i)
