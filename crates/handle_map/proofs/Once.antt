-- Each public contract that is no equation with the answer itself allows one outcome.
-- Assumes nothing.
use mathlib.Core.Path.{◌≡◌, refl}
use mathlib.Core.Bool.{cond}
use Prim.Native.Nat.{ℕ}
use lib.Dec.{eqb}
use Rattle.std.specs.Prelude.{Result, Ok, Err}
use Rattle.definitions.specs.Areas.{Words}
use Rattle.definitions.specs.MapEntries as Entries
use Rattle.definitions.specs.MapEntries.{adjust, range}
use Rattle.arena.proofs.Once.{read_back}
use Rattle.handle_map.specs.Answers.{adjusted_of, ranged_of}
use Rattle.handle_map.specs.declared.NoHandle.{NoHandle}
use Rattle.handle_map.specs.declared.NoHandle.TheVariants.{PastEnd, Dropped}

-- an answer read off its number
answer : {A : Type 0} → ℕ → A → Result A NoHandle
answer n a = cond (eqb n 0) (Ok a) (cond (eqb n 8) (Err PastEnd) (Err Dropped))

adjusted-back : Entries.Adjusted → Result ℕ NoHandle
adjusted-back x = answer x.number x.handle

adjusted-same : (r : Result ℕ NoHandle) → adjusted-back (adjusted_of r) ≡ r
unfolding adjusted-back answer
adjusted-same (Ok h) = refl
adjusted-same (Err PastEnd) = refl
adjusted-same (Err Dropped) = refl

ranged-back : Entries.Ranged → Result (ℕ × ℕ) NoHandle
ranged-back x = answer x.number (x.start, x.end)

ranged-same : (r : Result (ℕ × ℕ) NoHandle) → ranged-back (ranged_of r) ≡ r
unfolding ranged-back answer
ranged-same (Ok p) = refl
ranged-same (Err PastEnd) = refl
ranged-same (Err Dropped) = refl

-- `adjust`, `HandleMap::adjust`, `adjust_in`
pub adjust-once : (map : Words) (h : ℕ) (r q : Result ℕ NoHandle) → adjusted_of r ≡ adjust map h → adjusted_of q ≡ adjust map h → r ≡ q
adjust-once map h = read_back adjusted_of adjusted-back adjusted-same

-- `adjust_range`, `HandleMap::adjust_range`, `adjust_range_in`
pub adjust-range-once : (map : Words) (a b : ℕ) (r q : Result (ℕ × ℕ) NoHandle) → ranged_of r ≡ range map a b → ranged_of q ≡ range map a b → r ≡ q
adjust-range-once map a b = read_back ranged_of ranged-back ranged-same
