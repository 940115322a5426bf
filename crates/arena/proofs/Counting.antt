-- The counts are the module's sizes, where no area has more records than a word can count.
-- Assumes nothing.
use mathlib.Core.Path.{◌≡◌, ◌∙◌}
use Prim.Native.Nat.{ℕ, ◌≤◌, min}
use native.Mathlib.Omega.{arith}
use Rattle.definitions.specs.Areas.{N, Areas, Arena, size, mention_count}
use Rattle.arena.specs.Sizes.{sizes_of, counted_in}
use Rattle.arena.specs.declared.sizes.Sizes.{Sizes}

exact : {n : ℕ} → n ≤ N → min n N ≡ n
exact l = omega arith

pub sizes-exact : (s : Areas) → ((a : Arena) → size s a ≤ N) → mention_count s ≤ N → {z : Sizes} → z ≡ counted_in s → z ≡ sizes_of s
unfolding counted_in
sizes-exact s f m e = e ∙ λ i. record {
  types = exact (f Arena.types) i;
  constants = exact (f Arena.constants) i;
  overrides = exact (f Arena.overrides) i;
  globals = exact (f Arena.globals) i;
  expressions = exact (f Arena.expressions) i;
  mentions = exact m i;
}
