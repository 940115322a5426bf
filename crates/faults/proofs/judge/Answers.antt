-- `judge` meets its contract. Assumes nothing.
use Rattle.faults.proofs.Numbers.{measured}
use Rattle.faults.proofs.judge.Goals as goal

pub of-m-requires : goal.of-m-requires
of-m-requires c = measured _ _ c.in_ok-first.ensures c.in_ok-first-2.ensures
