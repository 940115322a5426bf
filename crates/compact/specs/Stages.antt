-- What each stage of `compact` promises, for any words: verdict and marks, maps by the marks, areas by the maps.
-- Assumes nothing.
use Rattle.std.specs.Prelude.{◌≡◌, Bool, ◌&&◌, cond, List, ℕ, min, length, T, eqb, Result, Ok, Err, IfOk}
use Rattle.definitions.specs.Areas.{Words, Areas}
use Rattle.definitions.specs.Areas.{Arena, types, constants, overrides, globals, expressions}
use Rattle.definitions.specs.Sweep.{kept}
use Rattle.definitions.specs.Refusals.{Verdict, accepted, refused, check, passes}
use Rattle.definitions.specs.Numbering.{rank}
use Rattle.definitions.specs.Outcome.{Maps, lengths}
use Rattle.arena.specs.HandleSet.{bases, base}
use Rattle.arena.specs.Marks.{Marks}
use Rattle.arena.specs.Sizes.{sizes_of, size_in}
use Rattle.arena.specs.declared.sizes.Sizes.{Sizes}
use Rattle.faults.specs.declared.Fault.{Fault}
use Rattle.handle_map.specs.FromSet.{in_set, mapped}
use Rattle.adjust.specs.Rewrite.{runs_by, areas_by}
use Rattle.compact.specs.declared.number.RecordCounts.{RecordCounts}
use Rattle.compact.specs.declared.rewrite.PoolCounts.{PoolCounts}

-- ---- judge

-- the module is accepted, with some maps
abbrev pub Accepts : Areas → Type 0
Accepts s = (maps : List ℕ) × T (passes (check s maps))

-- the sizes are the module's, and the words stand for what is kept
abbrev pub MarksKept : Areas → Bool → Sizes → List ℕ → Type 0
MarksKept s keep z ws = (z ≡ sizes_of s) × Marks s ws (kept s keep)

-- the verdict of document 01 that it is
abbrev pub verdict_in : {A : Type 0} → Result A Fault → Verdict
verdict_in (Ok x) = accepted
verdict_in (Err f) = refused f.number f.area f.record

-- the verdict; where it accepts, the sizes are told, and what is kept is in the words
pub record Judges (keep : Bool) (r : Result Sizes Fault) (s : Areas) (p : Maps) (ws : List ℕ) : Type 0 where
  pub verdict-is : verdict_in r ≡ check s (lengths p)
  pub marks-are : IfOk r (λ z. MarksKept s keep z ws)

-- ---- number

-- the records of an arena that the words hold
abbrev pub marked : List ℕ → Sizes → Arena → ℕ → Bool
marked ws z a = in_set ws (base (bases (size_in z)) a)

-- how many of an arena's records its map has room for
abbrev pub room_for : Sizes → Arena → Words → ℕ
room_for z a old = min (size_in z a) (length old)

-- the map of an arena by the words
abbrev pub map_by : List ℕ → Sizes → Arena → Words → Words
map_by ws z a old = mapped (marked ws z a) (room_for z a old) old

-- how many of its records they keep
abbrev pub count_by : List ℕ → Sizes → Arena → Words → ℕ
count_by ws z a old = rank (marked ws z a) (room_for z a old)

-- the five maps
abbrev pub maps_by : List ℕ → Sizes → Maps → Maps
maps_by ws z p =
    record {
      types = map_by ws z types p.types;
      constants = map_by ws z constants p.constants;
      overrides = map_by ws z overrides p.overrides;
      globals = map_by ws z globals p.globals;
      expressions = map_by ws z expressions p.expressions;
    }

-- and the five counts
abbrev pub counts_by : List ℕ → Sizes → Maps → RecordCounts
counts_by ws z p =
    record {
      types = count_by ws z types p.types;
      constants = count_by ws z constants p.constants;
      overrides = count_by ws z overrides p.overrides;
      globals = count_by ws z globals p.globals;
      expressions = count_by ws z expressions p.expressions;
    }

-- the maps and the counts by the words
pub record Numbers (ws : List ℕ) (z : Sizes) (r : RecordCounts) (p p' : Maps) : Type 0 where
  pub maps-are : p' ≡ maps_by ws z p
  pub counts-are : r ≡ counts_by ws z p

-- ---- rewrite

-- are as many records kept as there are ?
abbrev pub loses_none : Sizes → RecordCounts → Bool
loses_none z n =
    eqb n.types z.types && (eqb n.constants z.constants
    && (eqb n.overrides z.overrides && (eqb n.globals z.globals
    && eqb n.expressions z.expressions)))

-- how many words of the pools are kept by them
abbrev pub pools_by : Maps → Areas → PoolCounts
pools_by p s =
    record {
      members = length (runs_by p.types types s.types s.members);
      components = length (runs_by p.expressions expressions s.expressions s.components);
    }

-- all words of the pools
abbrev pub pools_of : Areas → PoolCounts
pools_of s = record { members = length s.members; components = length s.components }

-- the areas and the pools' counts by the maps; where no record is lost all stays as it was
pub record Rewrites (z : Sizes) (n : RecordCounts) (r : PoolCounts) (s : Areas) (p : Maps) (s' : Areas) : Type 0 where
  pub areas-are : s' ≡ cond (loses_none z n) s (areas_by p s)
  pub pools-are : r ≡ cond (loses_none z n) (pools_of s) (pools_by p s)
