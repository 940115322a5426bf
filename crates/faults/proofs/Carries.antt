-- What is carried from record to record: the counts before it under number 4, the leading types under 7. Assumes nothing.
use Rattle.std.proofs.Common.{◌≡◌, refl, sym, cond, eqb, ℕ, zero, suc, ◌+◌, ◌-◌, ◌≤◌, arith}
use native.Mathlib.Decide.{ℕ_discrete}
use borrow.Author.Tests.{ne_eqb}
use Rattle.definitions.specs.Areas.{Areas, Arena, types, size}
use Rattle.definitions.specs.References.{span}
use Rattle.definitions.specs.Refusals.{runs_before}
use Rattle.rules.specs.Rules.{leading}
use Rattle.rules.proofs.Laws.{leading-on}
use Rattle.rules.proofs.Steps.{runs_step}
use Rattle.faults.specs.Checking.{carried_at, carried_to}

module _ (s : Areas) where
  -- nothing is carried to the first record, and to the next what was carried to the last
  pub carried_none : (n a : ℕ) → carried_to s n a 0 ≡ record { sum = 0; types = 0 }
  unfolding carried_to
  carried_none n a = refl

  pub carried_next : (n a i : ℕ) → 1 ≤ i → carried_to s n a i ≡ carried_at s n a (i - 1)
  unfolding carried_to
  carried_next n a i l = grind arith

  -- one more count
  pub runs_next : (a : Arena) (i : ℕ) → 1 ≤ i → runs_before s a i ≡ runs_before s a (i - 1) + span s a (i - 1)
  runs_next a i l = let e = runs_step s a (i - 1) in grind (arith, e)

  -- the types that lead for an expression, from those that lead for the one before
  pub leads_on : (i : ℕ) → leading s i (carried_to s 7 4 i).types (size s types - (carried_to s 7 4 i).types) ≡ leading s i 0 (size s types)
  unfolding carried_at carried_to
  leads_on zero = grind arith
  leads_on (suc i) = sym (leading-on s i (suc i) (size s types) (omega arith))

  -- but at expressions none lead
  leads_not : (a i : ℕ) → (a ≡ 4 → ⊥) → (carried_to s 7 a i).types ≡ 0
  unfolding carried_at carried_to
  leads_not a zero q = refl
  leads_not a (suc i) q = rw (ne_eqb a 4 q)

  -- one record on, in any arena
  pub leads_next : (a i before : ℕ) → before ≡ (carried_to s 7 a i).types
      → cond (eqb a 4) (leading s i before (size s types - before)) before ≡ (carried_to s 7 a (i + 1)).types
  unfolding carried_at carried_to
  leads_next a i before e = elim (ℕ_discrete a 4) [
    | yes q ↦ let l = leads_on i in grind (arith, q, e, l)
    | no q ↦ let n = ne_eqb a 4 q in let z = leads_not a i q in grind (arith, e, n, z, leads_not a (i + 1) q)
  ]

pub ruleset carries = (carried_none, carried_next, runs_next, leads_on)
