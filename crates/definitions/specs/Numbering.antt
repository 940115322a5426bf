-- Document 01, "Refusal numbers", the accepted module: new numbers and maps. In the Rust: `HandleMap::from_set`
-- Assumes nothing.
use Rattle.std.specs.Prelude.{Bool, cond, List, [], ◌∷◌, ◌++◌, ℕ, drop}
use Rattle.definitions.specs.Lists.{total, gather, always}
use Rattle.definitions.specs.Areas.{Words, N, Arena, Areas, Elem, at, size}
use Rattle.definitions.specs.Sweep.{has}

-- how many of the first h records pass a test
unfoldable pub rank : (ℕ → Bool) → ℕ → ℕ
rank p h = total p (λ _. 1) h

-- "A map holds the new handle or N at each old record": the word at record h
unfoldable pub new_handle : (ℕ → Bool) → ℕ → ℕ
new_handle p h = cond (p h) (rank p h) N

-- the map of the first h records
unfoldable pub map_up_to : (ℕ → Bool) → ℕ → Words
map_up_to p h = gather always (λ i. new_handle p i ∷ []) h

-- is record h of the arena among the marks ?
abbrev pub is_kept : List Elem → Arena → ℕ → Bool
is_kept m a h = has m (at a h)

-- an element at its new place
unfoldable pub moved : List Elem → Elem → Elem
moved m (at a h) = at a (new_handle (is_kept m a) h)

-- "words past that stay"
unfoldable pub map_after : Areas → List Elem → Arena → Words → Words
map_after s m a old = map_up_to (is_kept m a) (size s a) ++ drop (size s a) old
