-- Records, runs and mentions rewritten by maps, for any words: what the definitions say of the kept, said of the maps.
-- Assumes nothing.
use Rattle.std.specs.Prelude.{◌≡◌, Bool, false, not, cond, List, [], ◌∷◌, ◌++◌, map, ℕ, suc, ◌+◌, ◌-◌, ◌*◌, ◌/◌, ◌<◌, min, length, get_or, take, drop, replicate, eqb}
use Rattle.definitions.specs.Lists.{total, gather, always}
use Rattle.definitions.specs.Areas.{Words, N, Areas, areas_of, Elem, at, numbered, width, word_of, mention_width}
use Rattle.definitions.specs.Areas.{Arena, types, constants, overrides, globals, expressions}
use Rattle.definitions.specs.Slots.{Slot, unused, free, below, must, may, start, count, slots}
use Rattle.definitions.specs.Records.{padded}
use Rattle.definitions.specs.Outcome.{Maps, map_of}
use Rattle.definitions.specs.MapEntries.{lookup}
use Rattle.slots.specs.Codes.{span_in}

-- an element by the map of its arena
unfoldable pub element_by : Maps → Elem → Elem
element_by p (at a h) = at a (lookup (map_of p a) h)

-- is record h kept ? Its word in the map is other than N
unfoldable pub kept_by : Words → ℕ → Bool
kept_by own h = not (eqb (lookup own h) N)

-- a word adjusted; b is the new start of the record's run
unfoldable pub adjusted_by : Maps → ℕ → Slot → ℕ → ℕ
adjusted_by p b unused w = w
adjusted_by p b free w = w
adjusted_by p b (below n) w = w
adjusted_by p b (must a) w = lookup (map_of p a) w
adjusted_by p b (may a) w = cond (eqb w N) N (lookup (map_of p a) w)
adjusted_by p b start w = b
adjusted_by p b count w = w

-- an init adjusted: unless it must be there it may be N
unfoldable pub init_by : Bool → Words → ℕ → ℕ
init_by due own w = cond (cond due false (eqb w N)) N (lookup own w)

-- a type at word k and the init after it, adjusted
unfoldable pub typed_by : Bool → Words → Words → (ℕ → ℕ) → ℕ → Words
typed_by due t e f k = lookup t (f k) ∷ init_by due e (f (suc k)) ∷ []

-- the words of a record from word k on, adjusted
unfoldable pub record_from : Maps → ℕ → (ℕ → ℕ) → ℕ → List Slot → Words
record_from p b f k [] = []
record_from p b f k (l ∷ ls) = adjusted_by p b l (f k) ∷ record_from p b f (suc k) ls

-- an empty record: N in each of its words
pub record Empty (r : Words) : Type 0 where
  pub some : 0 < length r
  pub all_none : r ≡ replicate (length r) N

-- the words before a place, then N to their old end
abbrev pub freed_from : ℕ → Words → Words
freed_from i ws = take i ws ++ replicate (length ws - i) N

-- how many records an arena's words make
abbrev pub record_count : Arena → Words → ℕ
record_count a ws = length ws / width a

-- the count of the run of record h
abbrev pub span_of : Arena → Words → ℕ → ℕ
span_of a ws h = span_in a (word_of ws a h)

-- the new start of record h's run: the counts of the kept records before it, as far as a word goes
unfoldable pub start_by : Words → Arena → Words → ℕ → ℕ
start_by own a ws h = min (total (kept_by own) (span_of a ws) h) N

-- record h, adjusted
unfoldable pub record_by : Maps → Arena → Words → ℕ → Words
record_by p a ws h = record_from p (start_by (map_of p a) a ws h) (word_of ws a h) 0 (slots a (word_of ws a h))

-- an arena after: its kept records in old order, adjusted, then N to its old end
unfoldable pub arena_by : Maps → Arena → Words → Words
arena_by p a ws = padded ws (gather (kept_by (map_of p a)) (record_by p a ws) (record_count a ws))

-- the run of record h, adjusted: it begins where those before it end
unfoldable pub run_by : Words → Arena → Words → Words → ℕ → Words
run_by own a ws pool h = map (lookup own) (take (span_of a ws h) (drop (total always (span_of a ws) h) pool))

-- the runs of an arena's kept records, adjusted, one after another
abbrev pub runs_by : Words → Arena → Words → Words → Words
runs_by own a ws pool = gather (kept_by own) (run_by own a ws pool) (record_count a ws)

-- a pool after: those runs, then N to its old end
unfoldable pub pool_by : Words → Arena → Words → Words → Words
pool_by own a ws pool = padded pool (runs_by own a ws pool)

-- word k of mention h
abbrev pub mention_at : Words → ℕ → ℕ → ℕ
mention_at ws h k = get_or ws (h * mention_width + k) 0

-- mention h, adjusted
unfoldable pub mention_by : Maps → Words → ℕ → Words
mention_by p ws h = mention_at ws h 0 ∷ lookup (map_of p (numbered (mention_at ws h 0))) (mention_at ws h 1) ∷ []

-- the mentions after, adjusted in place; a word past the last mention stays
unfoldable pub mentions_by : Maps → Words → Words
mentions_by p ws =
    gather always (mention_by p ws) (length ws / mention_width) ++ drop (length ws / mention_width * mention_width) ws

-- all areas after: arenas, pools and mentions by the maps
unfoldable pub areas_by : Maps → Areas → Areas
areas_by p s =
    areas_of
    (arena_by p types s.types)
    (arena_by p constants s.constants)
    (arena_by p overrides s.overrides)
    (arena_by p globals s.globals)
    (arena_by p expressions s.expressions)
    (pool_by p.types types s.types s.members)
    (pool_by p.expressions expressions s.expressions s.components)
    (mentions_by p s.mentions)
