-- Document 01, "The order the sweep needs": what is marked at once, dep, the visiting order, well ordered.
-- Assumes nothing.
use Rattle.std.specs.Prelude.{Bool, true, cond, List, [], ◌∷◌, ◌++◌, ℕ, zero, suc, ◌+◌, ◌-◌, max, min, eqb, ltb, leb}
use Rattle.definitions.specs.Lists.{all}
use Rattle.definitions.specs.Areas.{N, Areas, size, word}
use Rattle.definitions.specs.Areas.{Arena, types, constants, overrides, globals, expressions, Elem, at}
use Rattle.definitions.specs.References.{references}

-- "marking a constant, override or global marks its type and init at once": what is marked with an element
unfoldable pub behind : Areas → Elem → List Elem
behind s (at types h) = []
behind s (at constants h) = references s (at constants h)
behind s (at overrides h) = references s (at overrides h)
behind s (at globals h) = references s (at globals h)
behind s (at expressions h) = []

-- some elements, each with all that is marked with it
unfoldable pub with_behind : Areas → List Elem → List Elem
with_behind s [] = []
with_behind s (x ∷ xs) = x ∷ (behind s x ++ with_behind s xs)

-- one more than an init; 0 where there is none
unfoldable pub one_past : ℕ → ℕ
one_past i = cond (eqb i N) 0 (suc i)

-- one more than the init of the override that sizes type t; 0 where there is none
unfoldable pub sized_by : Areas → ℕ → ℕ
sized_by s t = cond (eqb (word s types t 0) 2) (one_past (word s overrides (word s types t 3) 2)) 0

-- "dep(T) is the largest init among the overrides that size T or any type before T; none, if there is none":
-- one past dep(T), and 0 for none. In the Rust: `max_dep` of `type_expression_tandem`
unfoldable pub past_dep : Areas → ℕ → ℕ
past_dep s zero = sized_by s zero
past_dep s (suc t) = max (past_dep s t) (sized_by s (suc t))

-- "none is below every expression": is dep(T) below expression e ?
abbrev pub dep_below : Areas → ℕ → ℕ → Bool
dep_below s t e = leb (past_dep s t) e

-- n expressions, youngest first, the last of them p
unfoldable pub falling : ℕ → ℕ → List Elem
falling p zero = []
falling p (suc n) = at expressions (p + n) ∷ falling p n

-- "all types are visited youngest first; before type T every unvisited expression above dep(T) is visited, youngest
-- first; the rest follow at the end": the visits where t types and e expressions are left
unfoldable pub visits : Areas → ℕ → ℕ → List Elem
visits s zero e = falling 0 e
visits s (suc t) e = falling (past_dep s t) (e - past_dep s t) ++ (at types t ∷ visits s t (min e (past_dep s t)))

-- all visits of a pass
unfoldable pub order : Areas → List Elem
order s = visits s (size s types) (size s expressions)

-- does x come later than y, to which it refers, or which stands behind what it refers to ?
unfoldable pub later : Areas → Elem → Elem → Bool
-- "a type's bases, members and its override's type are older types"
later s (at types t) (at types u) = ltb u t
-- "an expression's expressions, and the init behind its constant or override, are older expressions"
later s (at expressions e) (at expressions i) = ltb i e
-- "each type T that an expression names, or that stands behind its constant [..], has dep(T) below that expression"
later s (at expressions e) (at types u) = dep_below s u e
-- nothing else is asked
later s (at types t) (at constants h) = true
later s (at types t) (at overrides h) = true
later s (at types t) (at globals h) = true
later s (at types t) (at expressions e) = true
later s (at constants c) y = true
later s (at overrides c) y = true
later s (at globals c) y = true
later s (at expressions e) (at constants h) = true
later s (at expressions e) (at overrides h) = true
later s (at expressions e) (at globals h) = true

-- "An element's references are well ordered when: .."
unfoldable pub well_ordered : Areas → Arena → ℕ → Bool
well_ordered s a h = all (later s (at a h)) (with_behind s (references s (at a h)))
