-- The outer loop carries that the areas from here on decide, the inner one that the rest of the area and the areas after it do. Assumes nothing.
use Rattle.std.proofs.Common.{◌≡◌, [], ◌∷◌, ◌+◌, ◌-◌}
use Rattle.definitions.specs.Refusals.{refused, first_of, scan}
use Rattle.arena.specs.Lent.{areas_in}
use Rattle.faults.specs.Checking.{by_places, carried_to, in_turn, scan_area, ok_at, places_at}
use Rattle.faults.proofs.places.first.Given as goal

abbrev pub invariant-loop-i : goal.invariant-loop-i
invariant-loop-i l =
    let s = areas_in l.m.areas in
    let n = by_places l.number in
    (l.carried ≡ carried_to s n l.area l.i)
    × (first_of
    (scan (ok_at s n l.area) (refused n l.area) l.i (places_at s n l.area - l.i) ∷ in_turn (scan_area s n) (l.area + 1) (8 - (l.area + 1)) ∷ [])
    ≡ in_turn (scan_area s n) 0 8)

abbrev pub invariant-loop-area : goal.invariant-loop-area
invariant-loop-area l =
    let f = scan_area (areas_in l.m.areas) (by_places l.number) in
    in_turn f l.area (8 - l.area) ≡ in_turn f 0 8
