-- `adjust::free` meets its contract.
-- Assumes nothing.
use mathlib.Core.Path.{ap, subst, ◌∙◌}
use Prim.Native.Nat.{◌+◌, ◌*◌, ◌/◌, ◌-◌}
use native.Mathlib.Omega.{arith}
use lib.ListN.{length}
use borrow.Rule.Slice.PartMut.{put_mid}
use borrow.Author.Rules.{rules}
use Rattle.adjust.proofs.Stores.{Freeing, put-sets, tail-filled, one-freed, all-freed}
use Rattle.adjust.proofs.Passes.{within, next-at}
use Rattle.adjust.proofs.free.Goals as goal

pub loop-h-preserved : goal.loop-h-preserved
loop-h-preserved c =
    let a = c.args in
    let l = c.loop-h in
    let w = length a.empty.now in
    let at = a.from + l.h * w in
    let next = next-at l.h w in
    let room = within l.h w (length a.ws.now - a.from) (omega arith) in
    one-freed a.ws.now l.ws a.empty.now a.from at _ l.invariant (search rules) (omega (arith, next)) (omega (arith, next, room, l.invariant.same))
    (ap (put_mid _ _ _) c.copy_from_slice.ensures.after ∙ put-sets a.empty.now l.ws at _ (omega (arith, room, l.invariant.same)) (omega arith))

pub returns : goal.returns
returns c =
    let a = c.args in
    let l = c.loop-h in
    let w = length a.empty.now in
    let at = a.from + (length a.ws.now - a.from) / w * w in
    let f : Freeing a.ws.now l.ws a.from at = subst (λ h. Freeing a.ws.now l.ws a.from (a.from + h * w)) (omega arith) l.invariant in
    all-freed _ _ _ _ _ f (tail-filled l.ws at _ (omega (arith, f.high, f.same)) (c.fill.ensures.after (λ w e. e)))
