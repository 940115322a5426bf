-- `trace::trace_slots` meets its contract.
-- Assumes nothing.
use mathlib.Core.Path.{◌≡◌}
use mathlib.Core.List.{◌++◌}
use Prim.Native.Nat.{ℕ, suc, ◌+◌, ◌-◌, ◌/◌, ◌%◌, ◌<◌}
use native.Mathlib.Numerals.{add-one}
use native.Mathlib.Omega.{arith}
use Rattle.definitions.specs.References.{named_by, named_from}
use Rattle.slots.specs.Codes.{decoded, unpacked, words_from}
use Rattle.slots.proofs.Laws.{named_none}
use Rattle.trace.proofs.Behind.{marked_more, marked-none}
use Rattle.trace.proofs.trace_slots.Goals as goal

-- a slot and its word
turn : (f : ℕ → ℕ) (rest k : ℕ) {w : ℕ} → k < 10 → w ≡ f k
    → named_from f k (unpacked rest (10 - k)) ≡ named_by (decoded (rest % 16)) w ++ named_from f (k + 1) (unpacked (rest / 16) (10 - (k + 1)))
unfolding named_from unpacked
turn f rest k h y = let m : 10 - k ≡ suc (10 - (k + 1)) = omega arith in rw (m, ← add-one k, y)

pub loop-k-preserved : goal.loop-k-preserved
loop-k-preserved c = λ u q. c.loop-k.invariant u (rw (turn (words_from c.args.ws.now c.args.at) c.loop-k.rest c.loop-k.k (omega arith) c.word.ensures) (marked_more _ _ _ _ c.trace_slot.ensures q))

pub returns-then-rest-eq0 : goal.returns-then-rest-eq0
returns-then-rest-eq0 c = c.loop-k.invariant _ (rw (c.if-rest-eq0.true, named_none) (marked-none _ _ _))

pub returns-after-loop-k : goal.returns-after-loop-k
unfolding named_from unpacked
returns-after-loop-k c = let m : 10 - c.loop-k.k ≡ 0 = omega arith in c.loop-k.invariant _ (rw m (marked-none _ _ _))
