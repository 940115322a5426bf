-- The numbers in turn: what document 01 asks under each is what the loops of the code answer. Assumes nothing.
use Rattle.std.proofs.Common.{◌≡◌, sym, subst, List, ℕ, arith, T, eqb→eq}
use Rattle.definitions.specs.Areas.{Areas, area_number, widths, length_of, all_words}
use Rattle.definitions.specs.Refusals.{accepted, first_of, passes, scan, scan_areas, scan_records, scan_mentions, pool_used, check1, check2, check3, check4, check5, check6, check7, under, turns, check}
use Rattle.definitions.proofs.Accepted.{areas-all, area-few}
use Rattle.faults.specs.Measured.{Measured}
use Rattle.faults.specs.Checking.{area_ok, areas_at, in_turn, scan_area}
use Rattle.faults.proofs.Opened.{places}
use Rattle.faults.proofs.Scans.{flattened}

-- opens the check
unfoldable pub checks : ℕ
unfolding check turns under first_of check1 check2 check3 area_ok areas_at
checks = 0

module _ (s : Areas) where
  -- numbers 4 to 7 by their places
  pub in_places : (check4 s ≡ in_turn (scan_area s 4) 0 8) × (check5 s ≡ in_turn (scan_area s 5) 0 8)
      × (check6 s ≡ in_turn (scan_area s 6) 0 8) × (check7 s ≡ in_turn (scan_area s 7) 0 8)
  unfolding check4 check5 check6 check7 places in_turn scan_area area_number scan scan_records scan_mentions pool_used
  in_places = (sym (simp flattened), sym (simp flattened), sym (simp flattened), sym (simp flattened))

  -- what numbers 1 and 2 leave
  pub measured : (maps : List ℕ) → accepted ≡ scan_areas 1 (area_ok s maps 1) (areas_at 1) → accepted ≡ scan_areas 2 (area_ok s maps 2) (areas_at 2) → Measured s
  unfolding area_ok areas_at length_of all_words widths passes
  measured maps p q = record {
    whole = eqb→eq _ 0 (areas-all 1 _ 8 (subst (λ v. T (passes v)) p tt) 0 (omega arith));
    few = area-few s (areas-all 2 _ 8 (subst (λ v. T (passes v)) q tt));
  }

pub ruleset judged = (in_places)
