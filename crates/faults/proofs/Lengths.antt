-- Numbers 1 and 2 look at all areas, any other at the arenas, and no record is empty. Assumes nothing.
use Rattle.std.proofs.Common.{ℕ, ◌≤◌, ◌<◌, arith, ltb, get_or}
use lib.Dec.{ltb→lt}
use Rattle.definitions.specs.Lists.{all}
use Rattle.definitions.specs.Areas.{width, widths}
use Rattle.definitions.proofs.Judged.{all-at}
use Rattle.faults.specs.Checking.{areas_at}

-- so none looks past the last
pub areas-le : (n : ℕ) → areas_at n ≤ 8
unfolding areas_at
areas-le n = grind arith

-- no record is empty
pub wide : (a : ℕ) → a < 8 → 0 < get_or widths a 1
unfolding widths width all
wide a l = ltb→lt 0 _ (all-at (ltb 0) widths 1 tt a l)
