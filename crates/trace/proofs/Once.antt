-- Each public contract allows one outcome.
-- Assumes nothing.
use mathlib.Core.Path.{◌≡◌, sym, ◌∙◌}
use mathlib.Core.Bool.{Bool}
use mathlib.Core.List.{List}
use Prim.Native.Nat.{ℕ}
use Rattle.arena.proofs.Sets.{Fit, words-equal}
use Rattle.trace.specs.Bits.{Holds}

-- `mark`, `trace`, `trace_type`, `trace_expression`, `mark_roots`
pub holds-once : {v : List ℕ} {p : ℕ → Bool} {w w' : List ℕ} → Fit w → Fit w' → Holds v p w → Holds v p w' → w ≡ w'
holds-once {v} {p} {w} {w'} f f' h h' =
    words-equal w w' f f' (h.as_long ∙ sym h'.as_long) (λ j. h.holds j ∙ sym (h'.holds j))
