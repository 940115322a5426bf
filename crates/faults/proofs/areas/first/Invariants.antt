-- The loop carries that the areas from here on decide. Assumes nothing.
use Rattle.std.proofs.Common.{◌≡◌, ◌-◌}
use Rattle.definitions.specs.Refusals.{refused, scan, scan_areas}
use Rattle.arena.specs.Lent.{areas_in}
use Rattle.faults.specs.Checking.{by_lengths, area_ok, areas_at}
use Rattle.faults.proofs.areas.first.Given as goal

abbrev pub invariant-loop-area : goal.invariant-loop-area
invariant-loop-area l =
    let n = by_lengths l.number in
    let ok = area_ok (areas_in l.m) l.maps n in
    scan ok (λ a. refused n a 0) l.area (areas_at n - l.area) ≡ scan_areas n ok (areas_at n)
