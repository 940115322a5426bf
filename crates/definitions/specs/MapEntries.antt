-- Document 01, "Refusal numbers", the map entries over any map. In the Rust: `HandleMap::get`, `adjust`, `adjust_range`
-- Assumes nothing.
use Rattle.std.specs.Prelude.{◌&&◌, cond, [], ◌∷◌, ℕ, ◌+◌, ◌-◌, length, get_or, take, drop, eqb, ltb, leb}
use Rattle.definitions.specs.Areas.{Words, N}

-- "Lookup is never refused: a dropped handle or one past the end gives N"
unfoldable pub lookup : Words → ℕ → ℕ
lookup map h = get_or map h N

-- "The map entries [..] answer a number with a handle or range"
pub record Adjusted : Type 0 where
  pub number : ℕ
  pub handle : ℕ

-- "Adjust: 8 past the end, 9 on N"; "A refused adjust answers N"
unfoldable pub adjust : Words → ℕ → Adjusted
adjust map h =
    cond (ltb h (length map))
    (cond (eqb (lookup map h) N) (record { number = 9; handle = N }) (record { number = 0; handle = lookup map h }))
    (record { number = 8; handle = N })

pub record Ranged : Type 0 where
  pub number : ℕ
  pub start : ℕ
  pub end : ℕ

-- "no live handle gives 0..0, otherwise the first live handle's value to the last one's plus 1"
unfoldable pub live : Words → Words
live [] = []
live (w ∷ ws) = cond (eqb w N) (live ws) (w ∷ live ws)

unfoldable pub last : ℕ → Words → ℕ
last w [] = w
last w (v ∷ vs) = last v vs

unfoldable pub spanned : Words → Ranged
spanned [] = record { number = 0; start = 0; end = 0 }
spanned (w ∷ ws) = record { number = 0; start = w; end = last w ws + 1 }

-- 8: "range end above it, or range start after its end"; "a refused range N..N"
unfoldable pub range : Words → ℕ → ℕ → Ranged
range map a b =
    cond (leb b (length map) && leb a b) (spanned (live (take (b - a) (drop a map))))
    (record { number = 8; start = N; end = N })
