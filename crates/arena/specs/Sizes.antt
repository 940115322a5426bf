-- How many records a module has, and what counting them gives.
-- Assumes nothing.
use Rattle.std.specs.Prelude.{ℕ, min}
use Rattle.definitions.specs.Areas.{N, Areas, Arena, size, mention_count}
use Rattle.arena.specs.declared.sizes.Sizes.{Sizes}

-- how many records each arena of a module has, and how many mentions there are
abbrev pub sizes_of : Areas → Sizes
sizes_of s =
    record {
      types = size s Arena.types;
      constants = size s Arena.constants;
      overrides = size s Arena.overrides;
      globals = size s Arena.globals;
      expressions = size s Arena.expressions;
      mentions = mention_count s;
    }

-- how many of them the arena has
abbrev pub size_in : Sizes → Arena → ℕ
size_in z Arena.types = z.types
size_in z Arena.constants = z.constants
size_in z Arena.overrides = z.overrides
size_in z Arena.globals = z.globals
size_in z Arena.expressions = z.expressions

-- the same counts, none past N: `sizes_of`, where no area has more
unfoldable pub counted_in : Areas → Sizes
counted_in s =
    record {
      types = min (size s Arena.types) N;
      constants = min (size s Arena.constants) N;
      overrides = min (size s Arena.overrides) N;
      globals = min (size s Arena.globals) N;
      expressions = min (size s Arena.expressions) N;
      mentions = min (mention_count s) N;
    }
