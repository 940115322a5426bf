-- What numbers 1 and 2 leave.
-- Assumes nothing.
use Rattle.std.specs.Prelude.{◌≡◌, ℕ, ◌%◌, ◌<◌, length}
use Rattle.definitions.specs.Areas.{N, Areas, Arena, width, records_of}

-- whole types, and in no area as many records as N
pub record Measured (s : Areas) : Type 0 where
  pub whole : length s.types % width Arena.types ≡ 0
  pub few : (a : ℕ) → a < 8 → records_of s a < N
