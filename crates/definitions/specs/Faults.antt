-- Document 01, "Refusal numbers", 1 to 7 a second time, as a plain relation: what is wrong at a place, with no scan.
-- Assumes nothing.
use Rattle.std.specs.Prelude.{◌≡◌, ◌≢◌, ◌⊎◌, List, ℕ, ◌+◌, ◌%◌, ◌≤◌, ◌<◌, length, get_or, T}
use Rattle.definitions.specs.Areas.{N, Areas, Arena, types, overrides, expressions, numbered, Elem, at}
use Rattle.definitions.specs.Areas.{area_number, width, widths, limits, length_of, records_of, size, word, pool}
use Rattle.definitions.specs.Areas.{mention_count, mention_word}
use Rattle.definitions.specs.Slots.{Slot, unused, free, below, must, may, start, layout}
use Rattle.definitions.specs.References.{span, run, references}
use Rattle.definitions.specs.Order.{behind}
use Rattle.definitions.specs.Sweep.{has}
use Rattle.definitions.specs.Refusals.{Verdict, accepted, refused, runs_before, turn}

-- what each word of a record is, by its place
unfoldable pub slot_at : Areas → Arena → ℕ → ℕ → Slot
slot_at s a h k = get_or (layout s a h) k free

-- how a word of record h breaks the rules of its slot
pub data Misshapen (s : Areas) (a : Arena) (h : ℕ) : Slot → ℕ → Type 0 where
  -- "unused slot": "slots not named, and x or y that the form doesn't name, are N"
  taken : {w : ℕ} → w ≢ N → Misshapen s a h unused w
  -- "a kind, flag, form": there are only n of them
  unknown : {n w : ℕ} → n ≤ w → Misshapen s a h (below n) w
  -- "each start is the sum of the counts before it in that area"
  unpacked : {w : ℕ} → w ≢ runs_before s a h → Misshapen s a h start w
  -- "start plus count stays within the pool"
  overlong : {w : ℕ} → length (pool s a) < w + span s a h → Misshapen s a h start w

-- "a handle that must be there is N, or any handle isn't below its area's record count"
pub data Absent (s : Areas) (a : Arena) : ℕ → Type 0 where
  none : Absent s a N
  outside : {w : ℕ} → size s a ≤ w → Absent s a w

-- how a word fails the handle that its slot asks for
pub data Missing (s : Areas) : Slot → ℕ → Type 0 where
  needed : {a : Arena} {w : ℕ} → Absent s a w → Missing s (must a) w
  optional : {a : Arena} {w : ℕ} → w ≢ N → size s a ≤ w → Missing s (may a) w

-- x refers to y, or y stands behind a constant or override that x refers to
pub data Leads (s : Areas) (x : Elem) : Elem → Type 0 where
  straight : {y : Elem} → T (has (references s x) y) → Leads s x y
  through : {y : Elem} (z : Elem) → T (has (references s x) z) → T (has (behind s z) y) → Leads s x y

-- how y, to which x leads, fails the order that the sweep needs
pub data Misplaced (s : Areas) : Elem → Elem → Type 0 where
  -- "a type's bases, members and its override's type are older types"
  type_not_older : {t u : ℕ} → t ≤ u → Misplaced s (at types t) (at types u)
  -- "an expression's expressions, and the init behind its constant or override, are older expressions"
  expression_not_older : {e i : ℕ} → e ≤ i → Misplaced s (at expressions e) (at expressions i)
  -- "each type T that an expression names, or that stands behind its constant or override, has dep(T) below that
  -- expression": type v, which is T or before it, is sized by an override whose init isn't below expression e
  dep_not_below : {e t v i : ℕ} → v ≤ t → word s types v 0 ≡ 2
      → word s overrides (word s types v 3) 2 ≡ i → i ≢ N → e ≤ i → Misplaced s (at expressions e) (at types t)

-- number, area, record: a fault of the module; maps are the lengths of the five map areas
pub data Fault (s : Areas) (maps : List ℕ) : ℕ → ℕ → ℕ → Type 0 where
  -- 1 "an area's length isn't a multiple of its record width"
  ragged : {a : ℕ} → a < 8 → length_of s a % get_or widths a 1 ≢ 0 → Fault s maps 1 a 0
  -- 2 "an area has more records than its limit"
  crowded : {a : ℕ} → a < 8 → get_or limits a 0 < records_of s a → Fault s maps 2 a 0
  -- 3 "a map area is shorter than its arena's record count"; "for 3 the area is the map's arena"
  short_map : {a : ℕ} → a < 5 → get_or maps a 0 < records_of s a → Fault s maps 3 a 0
  -- 4 "a kind, flag, form, [..] unused slot or pool run breaks the rules above"
  misshapen : (a : Arena) {h : ℕ} (k : ℕ) → h < size s a → k < width a
      → Misshapen s a h (slot_at s a h k) (word s a h k) → Fault s maps 4 (area_number a) h
  -- "A pool longer than its runs is 4 at the pool, record 0."
  long_members : runs_before s types (size s types) < length (pool s types) → Fault s maps 4 5 0
  long_components : runs_before s expressions (size s expressions) < length (pool s expressions) → Fault s maps 4 6 0
  -- "a [..] mention area [..] breaks the rules above"
  mention_area : {h : ℕ} → h < mention_count s → 5 ≤ mention_word s h 0 → Fault s maps 4 7 h
  -- 5 "expression kind 13 or 27"
  out_of_scope : {h : ℕ} → h < size s expressions
      → (word s expressions h 0 ≡ 13) ⊎ (word s expressions h 0 ≡ 27) → Fault s maps 5 4 h
  -- 6 "a handle that must be there is N, or any handle isn't below its area's record count"
  missing : (a : Arena) {h : ℕ} (k : ℕ) → h < size s a → k < width a
      → Missing s (slot_at s a h k) (word s a h k) → Fault s maps 6 (area_number a) h
  -- "A fault in a pool's handle is charged to the record that owns the run."
  missing_in_run : (a : Arena) {h : ℕ} (i : ℕ) → h < size s a → i < length (run s a h)
      → Absent s a (get_or (run s a h) i 0) → Fault s maps 6 (area_number a) h
  missing_mention : {h : ℕ} → h < mention_count s
      → Absent s (numbered (mention_word s h 0)) (mention_word s h 1) → Fault s maps 6 7 h
  -- 7 "a type or expression isn't well ordered"
  misplaced : (a : Arena) {h : ℕ} (y : Elem) → h < size s a
      → Leads s (at a h) y → Misplaced s (at a h) y → Fault s maps 7 (area_number a) h

-- "numbers 1 to 7 in turn [..] area order, lowest record first": the first place comes no later than the second
abbrev pub NoLater : ℕ → ℕ → ℕ → ℕ → ℕ → ℕ → Type 0
NoLater n a h n' a' h' = (turn n < turn n') ⊎ ((n ≡ n') × ((a < a') ⊎ ((a ≡ a') × (h ≤ h'))))

-- the verdict that the faults call for: accepted where there is none, otherwise the least
abbrev pub CalledFor : Areas → List ℕ → Verdict → Type 0
CalledFor s maps accepted = (n a h : ℕ) → Fault s maps n a h → ⊥
CalledFor s maps (refused n a h) =
    Fault s maps n a h × ((n' a' h' : ℕ) → Fault s maps n' a' h' → NoLater n a h n' a' h')
