-- Document 01, "Refusal numbers": what a pass answers and leaves in every area and map. In the Rust: `compact`
-- Assumes nothing.
use Rattle.std.specs.Prelude.{Bool, List, [], ◌∷◌, ℕ, length}
use Rattle.definitions.specs.Areas.{Words, Areas, Elem, each_arena, size}
use Rattle.definitions.specs.Areas.{Arena, types, constants, overrides, globals, expressions}
use Rattle.definitions.specs.Sweep.{kept}
use Rattle.definitions.specs.Numbering.{is_kept, rank, map_after}
use Rattle.definitions.specs.Records.{runs_up_to, areas_after}
use Rattle.definitions.specs.Refusals.{Verdict, accepted, refused, check}

-- "Each of areas 0 to 4 also has a lent map area"
pub record Maps : Type 0 where
  pub types : Words
  pub constants : Words
  pub overrides : Words
  pub globals : Words
  pub expressions : Words

-- an arena's map
unfoldable pub map_of : Maps → Arena → Words
map_of p types = p.types
map_of p constants = p.constants
map_of p overrides = p.overrides
map_of p globals = p.globals
map_of p expressions = p.expressions

-- the lengths of the maps, which is all that the check asks of them
unfoldable pub lengths : Maps → List ℕ
lengths p =
    length p.types ∷ length p.constants ∷ length p.overrides ∷ length p.globals
    ∷ length p.expressions ∷ []

-- what a pass answers (number, area, record, counts) and what every lent word holds after it
pub record Outcome : Type 0 where
  pub number : ℕ
  pub area : ℕ
  pub record_number : ℕ
  pub counts : List ℕ
  pub areas : Areas
  pub maps : Maps

-- "The counts are the kept records of areas 0 to 6."
unfoldable pub kept_counts : Areas → List Elem → List ℕ
kept_counts s m =
    each_arena (λ a. rank (is_kept m a) (size s a))
    (length (runs_up_to s m types (size s types)) ∷ length (runs_up_to s m expressions (size s expressions)) ∷ [])

-- the five maps after
unfoldable pub maps_after : Areas → List Elem → Maps → Maps
maps_after s m p =
    record {
      types = map_after s m types p.types;
      constants = map_after s m constants p.constants;
      overrides = map_after s m overrides p.overrides;
      globals = map_after s m globals p.globals;
      expressions = map_after s m expressions p.expressions;
    }

-- the outcome by the verdict; refused: "The seven kept counts are 0. No area or map changes."
unfoldable pub outcome_of : Areas → Maps → List Elem → Verdict → Outcome
outcome_of s p m accepted =
    record {
      number = 0;
      area = 0;
      record_number = 0;
      counts = kept_counts s m;
      areas = areas_after s m;
      maps = maps_after s m p;
    }
outcome_of s p m (refused nr a h) =
    record { number = nr; area = a; record_number = h; counts = 0 ∷ 0 ∷ 0 ∷ 0 ∷ 0 ∷ 0 ∷ 0 ∷ []; areas = s; maps = p }

-- the outcome of a pass; the flag is true for `KeepUnused::Yes`
unfoldable pub outcome : Areas → Maps → Bool → Outcome
outcome s p keep = outcome_of s p (kept s keep) (check s (lengths p))
