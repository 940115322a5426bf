-- The contract allows one outcome.
-- Assumes nothing.
use mathlib.Core.Path.{◌≡◌, sym, ◌∙◌}
use mathlib.Core.List.{List}
use Prim.Native.Nat.{ℕ}
use Rattle.definitions.specs.Areas.{Areas}
use Rattle.arena.specs.declared.handle_set.Bases.{Bases}
use Rattle.arena.proofs.Sets.{Fit}
use Rattle.trace.proofs.Once.{holds-once}
use Rattle.tandem.specs.declared.Left.{Left}
use Rattle.tandem.proofs.Laws.{left-once}
use Rattle.tandem.proofs.Turns.{Pass}

-- `type_expression_tandem`
pub tandem-once : (s : Areas) (b : Bases) (start : Left) (budget : ℕ) (before : List ℕ) {r r' : Left} {ws ws' : List ℕ} → Fit ws → Fit ws'
    → Pass s b start budget before r ws → Pass s b start budget before r' ws' → (r ≡ r') × (ws ≡ ws')
tandem-once s b start budget before {r} {r'} f f' h h' =
    let q = left-once s r.types r.expressions r'.types r'.expressions (h.0 ∙ sym h'.0) in
    (λ i. record { types = q.0 i; expressions = q.1 i }, holds-once f f' h.1 h'.1)
