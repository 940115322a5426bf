-- The marks visit by visit, from any roots: none made, one more, all made.
-- Assumes nothing.
use mathlib.Core.Path.{◌≡◌, refl, ap, ◌∙◌}
use mathlib.Core.List.{List, [], ◌∷◌}
use Prim.Native.Nat.{ℕ, suc, ◌+◌, ◌<◌}
use native.Mathlib.Nat.{le_refl}
use lib.ListN.{length, get_or, take}
use lib.Seq.{take-suc, take_all}
use Rattle.definitions.specs.Areas.{Areas, Elem, types, expressions, size}
use Rattle.definitions.specs.Order.{order, with_behind}
use Rattle.definitions.specs.Sweep.{visit, sweep, marks_after, kept_from}
use Rattle.definitions.proofs.Least.{sweep-append}
use Rattle.definitions.proofs.Tandem.{visits-length}

module _ (s : Areas) (rs : List Elem) where
  -- as many visits as types and expressions
  pub order-length : length (order s) ≡ size s types + size s expressions
  unfolding order
  order-length = visits-length s (size s types) (size s expressions)

  -- before the first visit the roots are marked
  pub marks-first : marks_after s rs 0 ≡ with_behind s rs
  unfolding marks_after sweep
  marks-first = refl

  -- one more visit; which element stands for none is of no matter
  pub marks-next : (k : ℕ) (none : Elem) → k < size s types + size s expressions → marks_after s rs (suc k) ≡ visit s (marks_after s rs k) (get_or (order s) k none)
  unfolding marks_after sweep
  marks-next k none l =
      ap (λ o. sweep s o (with_behind s rs)) (take-suc (order s) k none (rw order-length l))
      ∙ sweep-append s (take k (order s)) (get_or (order s) k none ∷ []) (with_behind s rs)

  -- after as many visits as there are types and expressions the marks are what is kept
  pub marks-all : marks_after s rs (size s types + size s expressions) ≡ kept_from s rs
  unfolding marks_after kept_from
  marks-all = ap (λ o. sweep s o (with_behind s rs)) (take_all (size s types + size s expressions) (order s) (rw order-length (le_refl _)))
