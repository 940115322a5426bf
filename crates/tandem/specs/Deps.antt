-- dep over blocks of types.
-- Assumes nothing.
use Rattle.std.specs.Prelude.{◌≡◌, Option, Some, List, ℕ, zero, suc, ◌+◌, ◌*◌, ◌<◌, length, get_or}
use Rattle.definitions.specs.Areas.{Areas}
use Rattle.definitions.specs.Order.{past_dep}

-- one more than the largest init among the overrides that size one of the first t types; 0 for none
unfoldable pub dep_before : Areas → ℕ → ℕ
dep_before s zero = 0
dep_before s (suc t) = past_dep s t

-- 256 entries, and at each number that the level holds what f has there
pub record Level (holds : ℕ → Type 0) (f : ℕ → ℕ) (l : List ℕ) : Type 0 where
  pub full : length l ≡ 256
  pub entry : (j : ℕ) → holds j → get_or l j 0 ≡ f j

-- the first level, for n types: what the types before each block of 256 have
abbrev pub Starts : Areas → ℕ → List ℕ → Type 0
Starts s n starts = Level (λ k. (k < 256) × (k * 256 < n)) (λ k. dep_before s (k * 256)) starts

-- the second level: what the types up to each of block k have
abbrev pub Block : Areas → ℕ → List ℕ → Type 0
Block s k block = Level (λ j. j < 256) (λ j. dep_before s (k * 256 + (j + 1))) block

-- the second level has that block, if any
abbrev pub Held : Areas → Option ℕ → List ℕ → Type 0
Held s held block = (length block ≡ 256) × ((k : ℕ) → held ≡ Some k → Block s k block)
