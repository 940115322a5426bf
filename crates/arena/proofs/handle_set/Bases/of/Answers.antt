-- A capped sum of a capped sum is the whole sum capped. Assumes nothing.
use mathlib.Core.Path.{◌≡◌}
use Prim.Native.Nat.{ℕ, ◌+◌, min}
use native.Mathlib.Omega.{arith}
use Rattle.definitions.specs.Areas.{N, Arena, types, constants, overrides, globals, expressions}
use Rattle.arena.specs.declared.handle_set.Bases.{Bases}
use Rattle.arena.specs.HandleSet.{bases}
use Rattle.arena.specs.Sizes.{size_in}
use Rattle.arena.proofs.handle_set.Bases.of.Goals as goal

-- one more count
capped-sum : (a n p q : ℕ) → p ≡ min a N → q ≡ min (p + n) N → q ≡ min (a + n) N
capped-sum a n p q hp hq = omega arith

summed : (n : Arena → ℕ) (p q r s : ℕ) → p ≡ min (n types + n constants) N → q ≡ min (p + n overrides) N → r ≡ min (q + n globals) N → s ≡ min (r + n expressions) N
    → ◌≡◌ {A = Bases} (record { constants = n types; overrides = p; globals = q; expressions = r; end = s }) (bases n)
summed n p q r s hp hq hr hs =
    let hq' = capped-sum (n types + n constants) (n overrides) p q hp hq in
    let hr' = capped-sum (n types + n constants + n overrides) (n globals) q r hq' hr in
    let hs' = capped-sum (n types + n constants + n overrides + n globals) (n expressions) r s hr' hs in
    λ i. record { constants = n types; overrides = hp i; globals = hq' i; expressions = hr' i; end = hs' i }

pub returns : goal.returns
returns c =
    let a = c.args in
    summed (size_in a.z) _ _ _ _
    c.capped-to_overrides.ensures c.capped-to_globals.ensures c.capped-to_expressions.ensures c.capped.ensures
