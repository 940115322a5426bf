-- Document 01, "Who refers to whom": references.
-- Assumes nothing.
use Rattle.std.specs.Prelude.{Bool, false, cond, List, [], ◌∷◌, ◌++◌, map, ℕ, suc, take, drop, eqb}
use Rattle.definitions.specs.Areas.{Words, N, Areas, Elem, at, word, pool}
use Rattle.definitions.specs.Areas.{Arena, types, constants, overrides, globals, expressions}
use Rattle.definitions.specs.Slots.{Slot, unused, free, below, must, may, start, count, layout}

-- does the record have a run: a type of kind 3, a `Compose` ?
unfoldable pub has_run : Areas → Arena → ℕ → Bool
has_run s types h = eqb (word s types h 0) 3
has_run s constants h = false
has_run s overrides h = false
has_run s globals h = false
has_run s expressions h = eqb (word s expressions h 0) 8

-- the count of its run, 0 without one; of both kinds the start is word 2 and the count word 3
unfoldable pub span : Areas → Arena → ℕ → ℕ
span s a h = cond (has_run s a h) (word s a h 3) 0

-- the handles of its run: "A member or component run is handed on as part of its pool"
unfoldable pub run : Areas → Arena → ℕ → Words
run s a h = take (span s a h) (drop (word s a h 2) (pool s a))

-- what a slot with the word w names
unfoldable pub named_by : Slot → ℕ → List Elem
named_by unused w = []
named_by free w = []
named_by (below n) w = []
named_by (must a) w = at a w ∷ []
named_by (may a) w = cond (eqb w N) [] (at a w ∷ [])
named_by start w = []
named_by count w = []

-- what the slots name, from word k on; f are the record's words
unfoldable pub named_from : (ℕ → ℕ) → ℕ → List Slot → List Elem
named_from f k [] = []
named_from f k (l ∷ ls) = named_by l (f k) ++ named_from f (suc k) ls

-- "A constant, override or global refers to its type and its init, if any. A type refers to its base or members, and
-- kind 2 also to its override. An expression refers to what its slots and its run name."
unfoldable pub references : Areas → Elem → List Elem
references s (at a h) = named_from (word s a h) 0 (layout s a h) ++ map (at a) (run s a h)
