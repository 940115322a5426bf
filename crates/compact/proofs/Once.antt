-- The contract of `compact` allows one outcome, and demand 3 holds of what it says.
-- Assumes nothing.
use mathlib.Core.Path.{◌≡◌, refl, ap, subst}
use mathlib.Core.Bool.{Bool, true, false}
use Prim.Native.Nat.{ℕ}
use lib.Dec.{T}
use lib.ListN.{get_or}
use Rattle.std.specs.Prelude.{Result, Ok, Err, is_ok}
use Rattle.definitions.specs.Areas.{Areas}
use Rattle.definitions.specs.Outcome.{Maps, Outcome, lengths}
use Rattle.definitions.proofs.Demand3.{Demand3, demand3}
use Rattle.arena.proofs.Once.{read_back}
use Rattle.faults.specs.declared.Fault.{Fault}
use Rattle.compact.specs.Answer.{outcome_with, Compacts}
use Rattle.compact.specs.declared.Counts.{Counts}

-- an answer, the areas and the maps: whether it is an `Ok`, and the outcome that they make
made : Result Counts Fault × Areas × Maps → Bool × Outcome
made x = (is_ok x.0, outcome_with x.0 x.1 x.2)

-- and read back
back : Bool × Outcome → Result Counts Fault × Areas × Maps
back (true, o) =
    let n : ℕ → ℕ = λ k. get_or o.counts k 0 in
    let counts : Counts = record { types = n 0; constants = n 1; overrides = n 2; globals = n 3; expressions = n 4; members = n 5; components = n 6 } in
    (Ok counts, o.areas, o.maps)
back (false, o) = (Err (record { number = o.number; area = o.area; «record» = o.record_number }), o.areas, o.maps)

same : (x : Result Counts Fault × Areas × Maps) → back (made x) ≡ x
unfolding back made
same (Ok n, s, p) = refl
same (Err f, s, p) = refl

-- no second outcome satisfies the contract: neither another answer nor another word of any area or map
pub compact-once : (s : Areas) (p : Maps) (keep : Bool) (r q : Result Counts Fault) (s' s'' : Areas) (p' p'' : Maps)
    → Compacts keep r s p s' p' → Compacts keep q s p s'' p'' → (r ≡ q) × (s' ≡ s'') × (p' ≡ p'')
unfolding made
compact-once s p keep r q s' s'' p' p'' a b =
    let e = read_back made back same (r, s', p') (q, s'', p'') (λ i. (a.verdict i, a.outcome-is i)) (λ i. (b.verdict i, b.outcome-is i)) in
    (ap (λ x. x.0) e, ap (λ x. x.1) e, ap (λ x. x.2) e)

-- where the answer is that the module was accepted, demand 3 holds of it
pub compact-demand3 : (s : Areas) (p : Maps) (keep : Bool) (r : Result Counts Fault) (s' : Areas) (p' : Maps)
    → Compacts keep r s p s' p' → T (is_ok r) → Demand3 s keep
compact-demand3 s p keep r s' p' a t = demand3 s (lengths p) keep (subst T a.verdict t)
