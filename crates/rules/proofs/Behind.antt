-- An element and all that stands behind it, within bounds: what is asked of its type and of its init.
-- Assumes nothing.
use mathlib.Core.Path.{◌≡◌, refl, sym, ap}
use mathlib.Core.Bool.{Bool, true, false, ◌&&◌, ◌||◌, cond, and-true}
use mathlib.Core.List.{List, [], ◌∷◌, ◌++◌}
use Prim.Native.Nat.{ℕ}
use lib.Dec.{eqb}
use Rattle.definitions.specs.Lists.{all}
use Rattle.definitions.specs.Areas.{N, Areas, Elem, at, types, constants, overrides, globals, expressions, word, words}
use Rattle.definitions.specs.Slots.{slots, body, layout}
use Rattle.definitions.specs.References.{has_run, span, run, named_by, named_from, references}
use Rattle.definitions.specs.Order.{behind, with_behind}
use Rattle.rules.specs.declared.Bounds.{Bounds}
use Rattle.rules.specs.Rules.{within}

-- opens what stands behind an element
unfoldable pub opened : ℕ
unfolding all with_behind behind references named_from named_by layout slots body word words run span has_run within
opened = 0

-- an init that may be there is asked about unless it is N
all-may : (p : Elem → Bool) (t : Bool) (x : Elem) → all p (((cond t [] (x ∷ []) ++ []) ++ []) ++ []) ≡ t || p x
unfolding all
all-may p true x = refl
all-may p false x = and-true (p x)

-- do the elements, and all that stands behind them, lie within the bounds ?
abbrev pub fits : Bounds → Areas → List Elem → Bool
fits b s l = all (within b) (with_behind s l)

module _ (b : Bounds) (s : Areas) where
  abbrev pub of_type : ℕ → Bool
  of_type t = within b (at types t)

  abbrev pub of_init : ℕ → Bool
  of_init e = within b (at expressions e)

  abbrev pub of_maybe : ℕ → Bool
  of_maybe e = eqb e N || within b (at expressions e)

  pub of-type : (h : ℕ) → of_type h ≡ fits b s (at types h ∷ [])
  unfolding opened
  of-type h = sym (and-true (of_type h))

  pub of-expression : (h : ℕ) → of_init h ≡ fits b s (at expressions h ∷ [])
  unfolding opened
  of-expression h = sym (and-true (of_init h))

  pub of-constant : (h : ℕ) → fits b s (at constants h ∷ []) ≡ of_type (word s constants h 1) && of_init (word s constants h 2)
  unfolding opened
  of-constant h = ap (λ x. of_type (word s constants h 1) && x) (and-true _)

  pub of-override : (h : ℕ) → fits b s (at overrides h ∷ []) ≡ of_type (word s overrides h 1) && of_maybe (word s overrides h 2)
  unfolding opened
  of-override h =
      let e = word s overrides h 2 in
      ap (λ x. of_type (word s overrides h 1) && x) (all-may (within b) (eqb e N) (at expressions e))

  pub of-global : (h : ℕ) → fits b s (at globals h ∷ []) ≡ of_type (word s globals h 0) && of_maybe (word s globals h 1)
  unfolding opened
  of-global h =
      let e = word s globals h 1 in
      ap (λ x. of_type (word s globals h 0) && x) (all-may (within b) (eqb e N) (at expressions e))
