-- `adjust::carry_tail` meets its contract: all words are read before the first is written.
-- Assumes nothing.
use mathlib.Core.Path.{◌≡◌}
use Prim.Native.Nat.{ℕ, suc, ◌+◌}
use native.Mathlib.Nat.{add-zero}
use native.Mathlib.Omega.{arith}
use lib.ListN.{get_or, set}
use lib.Seq.{sets}
use Rattle.definitions.specs.Areas.{Words}
use Rattle.definitions.specs.Slots.{tail, carried}
use Rattle.slots.specs.Codes.{words_from}
use Rattle.adjust.proofs.carry_tail.Goals as goal

-- three words stored one after another are the tail
three : (ws : Words) (from to : ℕ)
    → set (set (set ws (to + 0) (get_or ws (from + 0) 0)) (to + 1) (get_or ws (from + 1) 0)) (to + 2) (get_or ws (from + 2) 0)
    ≡ sets ws to (carried (words_from ws from) 0 tail)
unfolding carried
three ws from to =
    let one : to + 1 ≡ suc to = omega arith in
    let two : to + 2 ≡ suc (suc to) = omega arith in
    rw (one, two, add-zero to)

pub returns : goal.returns
returns c = let a = c.args in three a.ws.now a.shift.from a.shift.to
