-- `trace::trace` meets its contract: the record's words are those from its place on.
-- Assumes nothing.
use native.Mathlib.Omega.{arith}
use Rattle.definitions.specs.Areas.{numbered}
use Rattle.slots.proofs.Places.{place-fits, record-span, record-run}
use Rattle.trace.proofs.Sets.{put-none}
use Rattle.trace.proofs.Visit.{no_run, visited}
use Rattle.trace.proofs.trace.Goals as goal

pub overflow_mul-at : goal.overflow_mul-at
overflow_mul-at c = place-fits (numbered c.args.area) c.args.i _ (omega arith) c.arena_width.ensures

pub returns-then-span-ne0 : goal.returns-then-span-ne0
returns-then-span-ne0 c =
    let ws = c.arena_words-ws.ensures in
    let run = record-run _ _ c.args.i ws c.arena_width.ensures c.arena_pool.ensures c.run.ensures in
    visited _ _ _ c.args.i ws c.arena_width.ensures _ c.shape.ensures run c.trace_slots.ensures c.trace_run.ensures
    (cc (c.contains.ensures, c.element.ensures, c.arena_at.ensures))

pub returns-else-span-ne0 : goal.returns-else-span-ne0
returns-else-span-ne0 c =
    let ws = c.arena_words-ws.ensures in
    let run = no_run _ _ c.args.i (record-span _ _ c.args.i ws c.arena_width.ensures c.span.ensures) c.if-span-ne0.false in
    visited _ _ _ c.args.i ws c.arena_width.ensures _ c.shape.ensures run c.trace_slots.ensures (put-none _)
    (cc (c.contains.ensures, c.element.ensures, c.arena_at.ensures))
