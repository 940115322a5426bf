-- Document 01, "The order the sweep needs": marks and the sweep.
-- Assumes nothing.
use Rattle.std.specs.Prelude.{Bool, false, ◌||◌, cond, List, [], ◌∷◌, ◌++◌, ℕ, take}
use Rattle.definitions.specs.Areas.{Areas, Elem, same}
use Rattle.definitions.specs.References.{references}
use Rattle.definitions.specs.Roots.{roots}
use Rattle.definitions.specs.Order.{with_behind, order}

-- is the element marked ? Marks are the list of the elements marked. In the Rust: `HandleSet::contains`
unfoldable pub has : List Elem → Elem → Bool
has [] x = false
has (y ∷ m) x = same x y || has m x

-- "Visiting a marked element marks what it refers to". In the Rust: `trace_type`, `trace_expression`
unfoldable pub visit : Areas → List Elem → Elem → List Elem
visit s m x = cond (has m x) (with_behind s (references s x) ++ m) m

-- the marks after visiting those elements in turn. In the Rust: `type_expression_tandem`
unfoldable pub sweep : Areas → List Elem → List Elem → List Elem
sweep s [] m = m
sweep s (x ∷ xs) m = sweep s xs (visit s m x)

-- "All roots are marked before the first visit.": the marks after k visits, whichever elements are the roots
unfoldable pub marks_after : Areas → List Elem → ℕ → List Elem
marks_after s rs k = sweep s (take k (order s)) (with_behind s rs)

-- and after all of them: what is kept
unfoldable pub kept_from : Areas → List Elem → List Elem
kept_from s rs = sweep s (order s) (with_behind s rs)

-- what is kept from a module's own roots; the flag is true for `KeepUnused::Yes`
abbrev pub kept : Areas → Bool → List Elem
kept s keep = kept_from s (roots s keep)
