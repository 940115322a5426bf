-- Each public contract that is no equation with the answer itself allows one outcome.
-- Assumes nothing.
use mathlib.Core.Path.{◌≡◌, ap, sym, ◌∙◌}
use mathlib.Core.List.{List}
use Prim.Native.Nat.{ℕ}
use native.Mathlib.Decide.{ℕ_discrete}
use Rattle.arena.specs.declared.TypeHandle.{TypeHandle}
use Rattle.arena.specs.declared.ExpressionHandle.{ExpressionHandle}
use Rattle.arena.specs.declared.GlobalHandle.{GlobalHandle}
use Rattle.arena.specs.declared.OverrideHandle.{OverrideHandle}
use Rattle.arena.specs.declared.ConstantHandle.{ConstantHandle}
use Rattle.arena.specs.HandleSet.{member, Inserted, Cleared}
use Rattle.arena.proofs.Sets.{Fit, words-equal}

-- what can be read back from what a contract says of it is told apart by that
pub read_back : {X Y : Type 0} (f : X → Y) (back : Y → X) → ((x : X) → back (f x) ≡ x)
    → {y : Y} (r q : X) → f r ≡ y → f q ≡ y → r ≡ q
read_back f back same r q a b = sym (same r) ∙ ap back (a ∙ sym b) ∙ same q

-- an equation of a handle's word: `ty`
pub type-once : {v : ℕ} {r r' : TypeHandle} → r.0 ≡ v → r'.0 ≡ v → r ≡ r'
type-once p q = λ i. record { 0 = (p ∙ sym q) i }

-- and `init`
pub expression-once : {v : ℕ} {r r' : ExpressionHandle} → r.0 ≡ v → r'.0 ≡ v → r ≡ r'
expression-once p q = λ i. record { 0 = (p ∙ sym q) i }

-- and the other handles, which `Record::handle` makes
pub constant-once : {v : ℕ} {r r' : ConstantHandle} → r.0 ≡ v → r'.0 ≡ v → r ≡ r'
constant-once p q = λ i. record { 0 = (p ∙ sym q) i }

pub override-once : {v : ℕ} {r r' : OverrideHandle} → r.0 ≡ v → r'.0 ≡ v → r ≡ r'
override-once p q = λ i. record { 0 = (p ∙ sym q) i }

pub global-once : {v : ℕ} {r r' : GlobalHandle} → r.0 ≡ v → r'.0 ≡ v → r ≡ r'
global-once p q = λ i. record { 0 = (p ∙ sym q) i }

-- `insert`, `insert_bit`
pub inserted-once : {vs ws ws' : List ℕ} {i : ℕ} → Fit ws → Fit ws' → Inserted vs i ws → Inserted vs i ws' → ws ≡ ws'
inserted-once {vs} {ws} {ws'} {i} f f' p p' =
    words-equal ws ws' f f' (p.as_long ∙ sym p'.as_long)
    (λ j. elim (ℕ_discrete j i) [ yes e ↦ ap (member ws) e ∙ p.put ∙ sym p'.put ∙ sym (ap (member ws') e) | no ne ↦ p.others j ne ∙ sym (p'.others j ne) ])

-- `clear`
pub cleared-once : {vs ws ws' : List ℕ} → Fit ws → Fit ws' → Cleared vs ws → Cleared vs ws' → ws ≡ ws'
cleared-once {vs} {ws} {ws'} f f' p p' =
    words-equal ws ws' f f' (p.as_long ∙ sym p'.as_long) (λ j. p.none j ∙ sym (p'.none j))
