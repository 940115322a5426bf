-- Document 01, "Who refers to whom": roots. In the Rust: `compact`, before it calls `type_expression_tandem`.
-- Assumes nothing.
use Rattle.std.specs.Prelude.{Bool, true, false, ◌&&◌, not, List, [], ◌++◌, map, ℕ, ◌/◌, ◌%◌, eqb}
use Rattle.definitions.specs.Lists.{always, count_up, select}
use Rattle.definitions.specs.Areas.{Areas, Arena, types, constants, overrides, globals, numbered, Elem, at}
use Rattle.definitions.specs.Areas.{size, word, mention_count, mention_word}

-- the elements of an arena that pass a test
unfoldable pub those : Areas → Arena → (ℕ → Bool) → List Elem
those s a p = map (at a) (select p (count_up 0 (size s a)))

-- "mentions: area 0 to 4, handle": what mention h names
unfoldable pub mention : Areas → ℕ → Elem
mention s h = at (numbered (mention_word s h 0)) (mention_word s h 1)

-- "Flags: 1 named, 2 abstract, 3 both."
unfoldable pub is_named : Areas → ℕ → Bool
is_named s h = eqb (word s types h 1 % 2) 1

unfoldable pub is_abstract : Areas → ℕ → Bool
is_abstract s h = eqb (word s types h 1 / 2) 1

-- "every constant that is named and whose type lacks the abstract flag"
unfoldable pub root_constant : Areas → ℕ → Bool
root_constant s h = eqb (word s constants h 0) 1 && not (is_abstract s (word s constants h 1))

-- "`named` is 0 or 1."
unfoldable pub named_override : Areas → ℕ → Bool
named_override s h = eqb (word s overrides h 0) 1

-- "Roots, in both modes: every mention; every constant that is named and whose type lacks the abstract flag."
unfoldable pub common_roots : Areas → List Elem
common_roots s = map (mention s) (count_up 0 (mention_count s)) ++ those s constants (root_constant s)

-- "With `KeepUnused::Yes` also: every global, every named override, every named type."
unfoldable pub more_roots : Areas → Bool → List Elem
more_roots s true = those s globals always ++ those s overrides (named_override s) ++ those s types (is_named s)
more_roots s false = []

-- the roots; the flag is true for `KeepUnused::Yes`
unfoldable pub roots : Areas → Bool → List Elem
roots s keep = common_roots s ++ more_roots s keep
