-- Document 01, "Refusal numbers": the check, numbers 1 to 7, as it runs.
-- Assumes nothing.
use Rattle.std.specs.Prelude.{Bool, true, false, ◌&&◌, not, cond, List, [], ◌∷◌, map, ℕ, zero, suc, ◌+◌, ◌%◌, length, get_or, eqb, ltb, leb}
use Rattle.definitions.specs.Lists.{total, always, all}
use Rattle.definitions.specs.Areas.{N, Areas, Arena, types, expressions, each_arena, area_number, size, Elem, at}
use Rattle.definitions.specs.Areas.{word, pool, widths, limits, length_of, records_of, mention_count, mention_word}
use Rattle.definitions.specs.Slots.{Slot, unused, free, below, must, may, start, count, layout}
use Rattle.definitions.specs.References.{span, run}
use Rattle.definitions.specs.Roots.{mention}
use Rattle.definitions.specs.Order.{well_ordered}

-- a refusal's number, area, record
pub data Verdict : Type 0 where
  accepted : Verdict
  refused : ℕ → ℕ → ℕ → Verdict

-- "It reports number, area, record."
pub record Report : Type 0 where
  pub passed : Bool
  pub number : ℕ
  pub area : ℕ
  pub record_number : ℕ

-- "Accepted: number, area and record are 0."
abbrev pub reported : Verdict → Report
reported accepted = record { passed = true; number = 0; area = 0; record_number = 0 }
reported (refused nr a h) = record { passed = false; number = nr; area = a; record_number = h }

unfoldable pub passes : Verdict → Bool
passes accepted = true
passes (refused nr a h) = false

-- "within one number, stops at the first fault in area order, lowest record first"
unfoldable pub first_of : List Verdict → Verdict
first_of [] = accepted
first_of (accepted ∷ l) = first_of l
first_of (refused nr a h ∷ l) = refused nr a h

-- the lowest of the n numbers from i on that fails the test, as `bad` reports it
unfoldable pub scan : (ℕ → Bool) → (ℕ → Verdict) → ℕ → ℕ → Verdict
scan ok bad i zero = accepted
scan ok bad i (suc n) = cond (ok i) (scan ok bad (suc i) n) (bad i)

-- the first n areas under a number: "For 1 to 3 the record is 0"
unfoldable pub scan_areas : ℕ → (ℕ → Bool) → ℕ → Verdict
scan_areas nr ok n = scan ok (λ a. refused nr a 0) 0 n

-- the records of an arena under a number
unfoldable pub scan_records : ℕ → (Areas → Arena → ℕ → Bool) → Areas → Arena → Verdict
scan_records nr ok s a = scan (ok s a) (refused nr (area_number a)) 0 (size s a)

-- the mentions, area 7, under a number
unfoldable pub scan_mentions : ℕ → (ℕ → Bool) → Areas → Verdict
scan_mentions nr ok s = scan ok (refused nr 7) 0 (mention_count s)

-- 1 "an area's length isn't a multiple of its record width"
unfoldable pub check1 : Areas → Verdict
check1 s = scan_areas 1 (λ a. eqb (length_of s a % get_or widths a 1) 0) 8

-- 2 "an area has more records than its limit"
unfoldable pub check2 : Areas → Verdict
check2 s = scan_areas 2 (λ a. leb (records_of s a) (get_or limits a 0)) 8

-- 3 "a map area is shorter than its arena's record count"; maps are the lengths of the five
unfoldable pub check3 : Areas → List ℕ → Verdict
check3 s maps = scan_areas 3 (λ a. leb (records_of s a) (get_or maps a 0)) 5

-- each slot of a record, from word k on, passes the test with its word
unfoldable pub every : (Slot → ℕ → Bool) → (ℕ → ℕ) → ℕ → List Slot → Bool
every p f k [] = true
every p f k (l ∷ ls) = p l (f k) && every p f (suc k) ls

-- "the sum of the counts before it in that area"
unfoldable pub runs_before : Areas → Arena → ℕ → ℕ
runs_before s a h = total always (span s a) h

-- 4 "a kind, flag, form, mention area, unused slot or pool run breaks the rules above"; "Pool runs are packed: each
-- start is the sum of the counts before it in that area, start plus count stays within the pool": a word of record h
unfoldable pub shaped : Areas → Arena → ℕ → Slot → ℕ → Bool
shaped s a h unused w = eqb w N
shaped s a h free w = true
shaped s a h (below n) w = ltb w n
shaped s a h (must b) w = true
shaped s a h (may b) w = true
shaped s a h start w = eqb w (runs_before s a h) && leb (w + span s a h) (length (pool s a))
shaped s a h count w = true

-- and all its words
unfoldable pub shaped_at : Areas → Arena → ℕ → Bool
shaped_at s a h = every (shaped s a h) (word s a h) 0 (layout s a h)

-- "the last run ends at the pool's end"; "A pool longer than its runs is 4 at the pool, record 0."
unfoldable pub pool_used : ℕ → Areas → Arena → Verdict
pool_used area s a = cond (eqb (runs_before s a (size s a)) (length (pool s a))) accepted (refused 4 area 0)

unfoldable pub check4 : Areas → Verdict
check4 s =
    first_of
    (each_arena (scan_records 4 shaped_at s)
    (pool_used 5 s types ∷ pool_used 6 s expressions ∷ scan_mentions 4 (λ h. ltb (mention_word s h 0) 5) s ∷ []))

-- 5 "expression kind 13 or 27"
unfoldable pub of_module : Areas → Arena → ℕ → Bool
of_module s a h = not (eqb (word s a h 0) 13) && not (eqb (word s a h 0) 27)

unfoldable pub check5 : Areas → Verdict
check5 s = scan_records 5 of_module s expressions

-- is the handle below its area's record count ?
unfoldable pub inside : Areas → Elem → Bool
inside s (at a h) = ltb h (size s a)

-- 6 "a handle that must be there is N, or any handle isn't below its area's record count": a word
unfoldable pub held : Areas → Slot → ℕ → Bool
held s unused w = true
held s free w = true
held s (below n) w = true
held s (must a) w = inside s (at a w)
held s (may a) w = cond (eqb w N) true (inside s (at a w))
held s start w = true
held s count w = true

-- and all words of a record: "A fault in a pool's handle is charged to the record that owns the run."
unfoldable pub held_at : Areas → Arena → ℕ → Bool
held_at s a h = every (held s) (word s a h) 0 (layout s a h) && all (λ w. inside s (at a w)) (run s a h)

unfoldable pub check6 : Areas → Verdict
check6 s = first_of (each_arena (scan_records 6 held_at s) (scan_mentions 6 (λ h. inside s (mention s h)) s ∷ []))

-- 7 "a type or expression isn't well ordered"; "Every type and every expression must be well ordered, kept or not."
unfoldable pub check7 : Areas → Verdict
check7 s = first_of (scan_records 7 well_ordered s types ∷ scan_records 7 well_ordered s expressions ∷ [])

-- the verdict under a number, from a table of all by number; what isn't one of the seven refuses nothing
unfoldable pub under : Areas → List ℕ → ℕ → Verdict
under s maps n =
    get_or (accepted ∷ check1 s ∷ check2 s ∷ check3 s maps ∷ check4 s ∷ check5 s ∷ check6 s ∷ check7 s ∷ []) n accepted

-- "The check runs numbers 1 to 7 in turn": the one list of the numbers, in the order in which they are tried
unfoldable pub turns : List ℕ
turns = 1 ∷ 2 ∷ 3 ∷ 4 ∷ 5 ∷ 6 ∷ 7 ∷ []

-- how many of a list stand before a number
unfoldable pub position : ℕ → List ℕ → ℕ
position n [] = 0
position n (m ∷ l) = cond (eqb n m) 0 (suc (position n l))

-- a number's turn: how many are tried before it
unfoldable pub turn : ℕ → ℕ
turn n = position n turns

-- the first fault of the numbers in turn
unfoldable pub check : Areas → List ℕ → Verdict
check s maps = first_of (map (under s maps) turns)
