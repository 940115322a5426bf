-- dep of one type more, and what the first level covers.
-- Assumes nothing.
use mathlib.Core.Path.{◌≡◌, refl}
use mathlib.Core.List.{List}
use Prim.Native.Nat.{ℕ, zero, suc, ◌+◌, ◌*◌, ◌/◌, ◌≤◌, ◌<◌, max}
use native.Mathlib.Nat.{add_assoc}
use native.Mathlib.Numerals.{add-one}
use native.Mathlib.Omega.{arith}
use lib.ListN.{get_or}
use Rattle.definitions.specs.Areas.{Areas, area_number, limit, limits, types}
use Rattle.definitions.specs.Order.{sized_by, past_dep}
use Rattle.tandem.specs.Deps.{dep_before, Starts}

-- before the first type, and one type more
pub dep_none : (s : Areas) (t : ℕ) → t ≡ 0 → dep_before s t ≡ 0
unfolding dep_before
dep_none s t e = rw e

dep-suc : (s : Areas) (t : ℕ) → dep_before s (suc t) ≡ max (dep_before s t) (sized_by s t)
unfolding dep_before past_dep
dep-suc s zero = omega arith
dep-suc s (suc t) = refl

pub dep_more : (s : Areas) (t : ℕ) → dep_before s (t + 1) ≡ max (dep_before s t) (sized_by s t)
dep_more s t = rw (add-one t) (dep-suc s t)

pub dep_next : (s : Areas) (a t : ℕ) → dep_before s (a + (t + 1)) ≡ max (dep_before s (a + t)) (sized_by s (a + t))
dep_next s a t = rw (← add_assoc a t 1) (dep_more s (a + t))

pub ruleset deps = (dep_none, dep_more, dep_next)

-- within the limit the first level holds what stands before the block of every type: none is computed anew
pub starts-cover : (s : Areas) (n : ℕ) (l : List ℕ) → n ≤ limit types → Starts s n l
    → (t : ℕ) → t < n → get_or l (t / 256) 0 ≡ dep_before s (t / 256 * 256)
unfolding limits area_number
starts-cover s n l m w t h = w.entry (t / 256) (omega arith, omega arith)
