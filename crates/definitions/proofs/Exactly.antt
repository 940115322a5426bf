-- Document 01, "Refusal numbers": the check, as it scans, answers what the faults, as a plain relation, call for.
-- Assumes nothing.
use mathlib.Core.Path.{◌≡◌, refl, sym, ap, subst, ◌∙◌}
use mathlib.Core.Bool.{Bool}
use mathlib.Core.Logic.{inl, inr, ⊎_elim}
use mathlib.Core.List.{List, [], ◌∷◌, map}
use Prim.Native.Nat.{ℕ, suc, ◌+◌, ◌*◌, ◌%◌, ◌<◌, zero-le}
use native.Mathlib.Nat.{le_refl, le_trans}
use native.Mathlib.Decide.{dec_lt}
use native.Mathlib.Omega.{arith}
use lib.Dec.{T, eqb, ltb, leb, eqb→eq, lit<, lit≤}
use lib.ListN.{length, get_or, get_or-map}
use Rattle.definitions.specs.Areas.{Areas, Arena, N, at, constants, each_arena, expressions, globals, length_of, limits, mention_count}
use Rattle.definitions.specs.Areas.{mention_word, area_number, numbered, overrides, pool, records_of, size, types, widths}
use Rattle.definitions.specs.Roots.{mention}
use Rattle.definitions.specs.Order.{well_ordered}
use Rattle.definitions.specs.Refusals.{Verdict, accepted, check, check1, check2, check3, check4, check5, check6, check7, held_at, inside}
use Rattle.definitions.specs.Refusals.{of_module, passes, pool_used, position, refused, runs_before, scan_areas, scan_mentions, scan_records, shaped_at}
use Rattle.definitions.specs.Refusals.{turn, turns, under}
use Rattle.definitions.specs.Faults.{CalledFor, Fault, NoLater, ragged, crowded, short_map, misshapen, long_members, long_components}
use Rattle.definitions.specs.Faults.{mention_area, out_of_scope, missing, missing_in_run, missing_mention, misplaced}
use Rattle.definitions.proofs.Least.{Each}
use Rattle.definitions.proofs.Turns.{Listed, at_turn, turn-once, turns-rising}
use Rattle.definitions.proofs.Accepted.{areas-all, scan-all, size_few}
use Rattle.definitions.proofs.Kept.{Plain}
use Rattle.definitions.proofs.Judged.{Between, By, Early, Rising, Under, areas-under, areas-by, arenas-at, arenas-rise, arenas-say, code, cond-says}
use Rattle.definitions.proofs.Judged.{each-says, first-between, first_by, first_says, leb-fails, ltb-fails, not_eqb, not-leb, not-ltb}
use Rattle.definitions.proofs.Judged.{passes-or-by, records-between, records-by, room, scan-says, turns-rise}
use Rattle.definitions.proofs.Failing.{absent-fails, fails4, fails5, fails6, fails6-run, fails7, fault4, fault5, fault6, fault7}
use Rattle.definitions.proofs.Failing.{misplaced-plain, outside-absent, runs-end}

-- number 6 comes after number 2
two-six : turn 2 < turn 6
unfolding turn position turns
two-six = lit< tt

module _ (s : Areas) (maps : List ℕ) where
  -- ---- the verdicts in their order

  -- the tests of the areas, numbers 1 to 3, and of the mentions, numbers 4 and 6
  abbrev whole : ℕ → Bool
  whole a = eqb (length_of s a % get_or widths a 1) 0

  abbrev limited : ℕ → Bool
  limited a = leb (records_of s a) (get_or limits a 0)

  abbrev mapped : ℕ → Bool
  mapped a = leb (records_of s a) (get_or maps a 0)

  abbrev known : ℕ → Bool
  known h = ltb (mention_word s h 0) 5

  abbrev mentioned : ℕ → Bool
  mentioned h = inside s (mention s h)

  -- the verdicts of numbers 4, 6 and 7
  abbrev rest4 : List Verdict
  rest4 = pool_used 5 s types ∷ pool_used 6 s expressions ∷ scan_mentions 4 known s ∷ []

  abbrev list4 : List Verdict
  list4 = each_arena (scan_records 4 shaped_at s) rest4

  abbrev rest6 : List Verdict
  rest6 = scan_mentions 6 mentioned s ∷ []

  abbrev list6 : List Verdict
  list6 = each_arena (scan_records 6 held_at s) rest6

  abbrev list7 : List Verdict
  list7 = scan_records 7 well_ordered s types ∷ scan_records 7 well_ordered s expressions ∷ []

  -- does a pool end with its runs ?
  abbrev used : Arena → Bool
  used a = eqb (runs_before s a (size s a)) (length (pool s a))

  -- where a pool's verdict stands
  pool-between : (a : Arena) (area : ℕ) → Between (code 4 area) (code 4 (suc area)) (pool_used area s a)
  unfolding pool_used
  pool-between a area =
      cond-says (Between (code 4 area) (code 4 (suc area))) (used a) accepted (refused 4 area 0) (λ t. omega arith)
      (λ f. (omega arith, omega arith))

  -- where those of an arena's records stand
  arena-between : (nr : ℕ) (ok : Areas → Arena → ℕ → Bool) (a : Arena)
      → Between (code nr (area_number a)) (code nr (suc (area_number a))) (scan_records nr ok s a)
  unfolding scan_records
  arena-between nr ok a =
      records-between nr (area_number a) (ok s a) (size s a) (area_number a) (suc (area_number a)) (le_refl (area_number a)) (le_refl (suc (area_number a)))

  -- where those of number 4 stand
  rising4 : Rising (code 4 0) list4 (code 4 room)
  unfolding scan_mentions
  rising4 =
      arenas-rise (scan_records 4 shaped_at s) rest4 4 (code 4 room) (arena-between 4 shaped_at) (
        code 4 6,
        pool-between types 5,
        (
          code 4 7,
          pool-between expressions 6,
          (code 4 room, records-between 4 7 known (mention_count s) 7 room (lit≤ tt) (lit< tt), le_refl (code 4 room)),
        ),
      )

  -- those of number 6
  rising6 : Rising (code 6 0) list6 (code 6 room)
  unfolding scan_mentions
  rising6 =
      arenas-rise (scan_records 6 held_at s) rest6 6 (code 6 room) (arena-between 6 held_at)
      (code 6 room, records-between 6 7 mentioned (mention_count s) 5 room (lit≤ tt) (lit< tt), le_refl (code 6 room))

  -- those of number 7
  rising7 : Rising (code 7 0) list7 (code 7 room)
  unfolding scan_records area_number
  rising7 = (
    code 7 1,
    records-between 7 0 (well_ordered s types) (size s types) 0 1 (lit≤ tt) (lit< tt),
    (
      code 7 room,
      records-between 7 4 (well_ordered s expressions) (size s expressions) 1 room (lit≤ tt) (lit< tt),
      le_refl (code 7 room),
    ),
  )

  -- so each number's verdict stands under the number
  under1 : Under 1 (check1 s)
  unfolding check1 scan_areas
  under1 = areas-under 1 whole 8 (lit≤ tt)

  under2 : Under 2 (check2 s)
  unfolding check2 scan_areas
  under2 = areas-under 2 limited 8 (lit≤ tt)

  under3 : Under 3 (check3 s maps)
  unfolding check3 scan_areas
  under3 = areas-under 3 mapped 5 (lit≤ tt)

  under4 : Under 4 (check4 s)
  unfolding check4
  under4 = first-between (code 4 0) list4 (code 4 room) rising4

  under5 : Under 5 (check5 s)
  unfolding check5 scan_records area_number
  under5 = records-between 5 4 (of_module s expressions) (size s expressions) 0 room (lit≤ tt) (lit< tt)

  under6 : Under 6 (check6 s)
  unfolding check6
  under6 = first-between (code 6 0) list6 (code 6 room) rising6

  under7 : Under 7 (check7 s)
  unfolding check7
  under7 = first-between (code 7 0) list7 (code 7 room) rising7

  stands : Each (λ n. Under n (under s maps n)) turns
  unfolding turns under
  stands = (under1, (under2, (under3, (under4, (under5, (under6, (under7, tt)))))))

  -- where a number refuses so early, so does the check
  by : (n : ℕ) → Listed n → (k h : ℕ) → By k h (under s maps n) → By k h (check s maps)
  unfolding check under
  by n t k h b =
      first_by k h (0 * room) (map (under s maps) turns) ((0 + length turns) * room) (turns-rise (under s maps) 0 turns turns-rising stands) (turn n)
      (subst (By k h) (sym (get_or-map (under s maps) turns (turn n) 0 ∙ ap (under s maps) (at_turn n t))) b)

  -- where number 2 does, so does the check
  by2 : (k h : ℕ) → By k h (check2 s) → By k h (check s maps)
  unfolding under turn position turns
  by2 k h b = by 2 tt k h b

  -- where one of number 4 does
  by4 : (k h i : ℕ) → By k h (get_or list4 i accepted) → By k h (check s maps)
  unfolding under turn position turns check4
  by4 k h i b = by 4 tt k h (first_by k h (code 4 0) list4 (code 4 room) rising4 i b)

  -- one of number 6
  by6 : (k h i : ℕ) → By k h (get_or list6 i accepted) → By k h (check s maps)
  unfolding under turn position turns check6
  by6 k h i b = by 6 tt k h (first_by k h (code 6 0) list6 (code 6 room) rising6 i b)

  -- one of number 7
  by7 : (k h i : ℕ) → By k h (get_or list7 i accepted) → By k h (check s maps)
  unfolding under turn position turns check7
  by7 k h i b = by 7 tt k h (first_by k h (code 7 0) list7 (code 7 room) rising7 i b)

  -- ---- what is reported is a fault

  -- nothing reported, or a fault
  abbrev Found : Verdict → Type 0
  Found accepted = Unit {0}
  Found (refused n a h) = Fault s maps n a h

  -- of a scan of records, where each that fails is one
  records-found : (nr : ℕ) (ok : Areas → Arena → ℕ → Bool) (a : Arena)
      → ((h : ℕ) → h < size s a → (T (ok s a h) → ⊥) → Fault s maps nr (area_number a) h) → Found (scan_records nr ok s a)
  unfolding scan_records
  records-found nr ok a r = scan-says Found (ok s a) (refused nr (area_number a)) (size s a) tt r

  -- of a pool, where its arena's records are shaped
  pool-found : (a : Arena) (area : ℕ) → (runs_before s a (size s a) < length (pool s a) → Fault s maps 4 area 0)
      → T (passes (scan_records 4 shaped_at s a)) → Found (pool_used area s a)
  unfolding pool_used scan_records passes
  pool-found a area r t =
      cond-says Found (used a) accepted (refused 4 area 0) (λ u. tt)
      (λ f.
      let n : runs_before s a (size s a) ≡ length (pool s a) → ⊥ = not_eqb (runs_before s a (size s a)) (length (pool s a)) f in
      let l = runs-end s a (scan-all (shaped_at s a) (refused 4 (area_number a)) (λ k u. u) (size s a) t) (size s a) (le_refl (size s a)) in
      r (omega arith))

  -- of number 1
  found1 : Found (check1 s)
  unfolding check1 scan_areas
  found1 = scan-says Found whole (λ a. refused 1 a 0) 8 tt (λ a l f. ragged l (not_eqb (length_of s a % get_or widths a 1) 0 f))

  -- of number 2
  found2 : Found (check2 s)
  unfolding check2 scan_areas
  found2 = scan-says Found limited (λ a. refused 2 a 0) 8 tt (λ a l f. crowded l (not-leb (records_of s a) (get_or limits a 0) f))

  -- of number 3
  found3 : Found (check3 s maps)
  unfolding check3 scan_areas
  found3 = scan-says Found mapped (λ a. refused 3 a 0) 5 tt (λ a l f. short_map l (not-leb (records_of s a) (get_or maps a 0) f))

  -- of number 4
  found4 : Found (check4 s)
  unfolding check4 scan_mentions
  found4 =
      first_says Found list4 tt
      (arenas-say (scan_records 4 shaped_at s) rest4 Found (λ a. records-found 4 shaped_at a (fault4 s maps a)) (λ t. (
        pool-found types 5 long_members (t types),
        λ u. (
          pool-found expressions 6 long_components (t expressions),
          λ v. (scan-says Found known (refused 4 7) (mention_count s) tt (λ h l f. mention_area l (not-ltb (mention_word s h 0) 5 f)), λ w. tt),
        ),
      )))

  -- of number 5
  found5 : Found (check5 s)
  unfolding check5 area_number
  found5 = records-found 5 of_module expressions (fault5 s maps)

  -- of number 6
  found6 : Found (check6 s)
  unfolding check6 scan_mentions mention
  found6 =
      first_says Found list6 tt
      (arenas-say (scan_records 6 held_at s) rest6 Found (λ a. records-found 6 held_at a (fault6 s maps a)) (λ t. (
        scan-says Found mentioned (refused 6 7) (mention_count s) tt
            (λ h l f. missing_mention l (outside-absent s (numbered (mention_word s h 0)) (mention_word s h 1) f)),
        λ u. tt,
      )))

  -- of number 7
  found7 : Found (check7 s)
  unfolding check7
  found7 =
      first_says Found list7 tt (
        records-found 7 well_ordered types (fault7 s maps types),
        λ t. (records-found 7 well_ordered expressions (fault7 s maps expressions), λ u. tt),
      )

  -- of the check
  found : Found (check s maps)
  unfolding check turns under
  found = each-says Found (under s maps) turns tt (found1, (found2, (found3, (found4, (found5, (found6, (found7, tt)))))))

  -- ---- a fault makes the check refuse, there or before

  -- an arena's number is an area's
  counted : (a : Arena) → area_number a < room
  unfolding area_number
  counted types = lit< tt
  counted constants = lit< tt
  counted overrides = lit< tt
  counted globals = lit< tt
  counted expressions = lit< tt

  -- number 2 leaves far fewer records than N
  few : T (passes (check2 s)) → (a : Arena) → size s a < N
  unfolding check2
  few t = size_few s (areas-all 2 limited 8 t)

  -- so a later number may go by that
  late : (n a h : ℕ) → turn 2 < turn n → (((b : Arena) → size s b < N) → By (code n a) h (check s maps)) → By (code n a) h (check s maps)
  late n a h l f =
      ⊎_elim (λ t. f (few t)) (by2 (code n a) h) (passes-or-by (code n a) h (code 2 0) (code 2 room) (omega arith) (check2 s) under2)

  -- a record that fails the test of number 4
  met4 : (a : Arena) (h : ℕ) → h < size s a → (T (shaped_at s a h) → ⊥) → By (code 4 (area_number a)) h (check s maps)
  unfolding scan_records
  met4 a h l f =
      by4 (code 4 (area_number a)) h (area_number a)
      (rw (arenas-at (scan_records 4 shaped_at s) rest4 a) (records-by 4 (area_number a) (shaped_at s a) (size s a) h l f))

  -- of number 6
  met6 : (a : Arena) (h : ℕ) → h < size s a → (((b : Arena) → size s b < N) → T (held_at s a h) → ⊥)
      → By (code 6 (area_number a)) h (check s maps)
  unfolding scan_records
  met6 a h l f =
      late 6 (area_number a) h two-six
      (λ w.
      by6 (code 6 (area_number a)) h (area_number a)
      (rw (arenas-at (scan_records 6 held_at s) rest6 a) (records-by 6 (area_number a) (held_at s a) (size s a) h l (f w))))

  -- of number 7
  met7 : (a : Arena) (h : ℕ) → h < size s a → Plain (at a h) → (T (well_ordered s a h) → ⊥) → By (code 7 (area_number a)) h (check s maps)
  unfolding scan_records area_number
  met7 types h l p f = by7 (code 7 0) h 0 (records-by 7 0 (well_ordered s types) (size s types) h l f)
  met7 constants h l p f = absurd p
  met7 overrides h l p f = absurd p
  met7 globals h l p f = absurd p
  met7 expressions h l p f = by7 (code 7 4) h 1 (records-by 7 4 (well_ordered s expressions) (size s expressions) h l f)

  -- a pool longer than its runs
  met-pool : (a : Arena) (area : ℕ) → runs_before s a (size s a) < length (pool s a) → By (code 4 area) 0 (pool_used area s a)
  unfolding pool_used
  met-pool a area l =
      cond-says (By (code 4 area) 0) (used a) accepted (refused 4 area 0)
      (λ t. let e = eqb→eq (runs_before s a (size s a)) (length (pool s a)) t in absurd (omega arith)) (λ f. inr (refl, zero-le))

  -- every fault
  met : {n a h : ℕ} → Fault s maps n a h → By (code n a) h (check s maps)
  unfolding under turn position turns check1 check2 check3 check5 scan_areas scan_records scan_mentions area_number mention
  met (ragged {a} l n) = by 1 tt (code 1 a) 0 (areas-by 1 whole 8 a l (λ t. n (eqb→eq (length_of s a % get_or widths a 1) 0 t)))
  met (crowded {a} l q) = by2 (code 2 a) 0 (areas-by 2 limited 8 a l (leb-fails q))
  met (short_map {a} l q) = by 3 tt (code 3 a) 0 (areas-by 3 mapped 5 a l (leb-fails q))
  met (misshapen a {h} k l w m) = met4 a h l (fails4 s a h k w m)
  met (long_members q) = by4 (code 4 5) 0 5 (met-pool types 5 q)
  met (long_components q) = by4 (code 4 6) 0 6 (met-pool expressions 6 q)
  met (mention_area {h} l q) = by4 (code 4 7) h 7 (records-by 4 7 known (mention_count s) h l (ltb-fails q))
  met (out_of_scope {h} l e) = by 5 tt (code 5 4) h (records-by 5 4 (of_module s expressions) (size s expressions) h l (fails5 s h e))
  met (missing a {h} k l w m) = met6 a h l (λ f. fails6 s a h f k w m)
  met (missing_in_run a {h} i l w m) = met6 a h l (λ f. fails6-run s a h f i w m)
  met (missing_mention {h} l m) =
      late 6 7 h two-six (λ f. by6 (code 6 7) h 5 (records-by 6 7 mentioned (mention_count s) h l (absent-fails s f m)))
  met (misplaced a {h} y l d m) = met7 a h l (misplaced-plain s m) (fails7 s a h y d m)

  -- ---- the two orders of places

  -- the number is one of the list, and has room for the area
  placed : {n a h : ℕ} → Fault s maps n a h → Listed n × (a < room)
  unfolding turn position turns
  placed (ragged l n) = (tt, le_trans l (lit≤ tt))
  placed (crowded l q) = (tt, le_trans l (lit≤ tt))
  placed (short_map l q) = (tt, le_trans l (lit≤ tt))
  placed (misshapen a k l w m) = (tt, counted a)
  placed (long_members q) = (tt, lit< tt)
  placed (long_components q) = (tt, lit< tt)
  placed (mention_area l q) = (tt, lit< tt)
  placed (out_of_scope l e) = (tt, lit< tt)
  placed (missing a k l w m) = (tt, counted a)
  placed (missing_in_run a i l w m) = (tt, counted a)
  placed (missing_mention l m) = (tt, lit< tt)
  placed (misplaced a y l d m) = (tt, counted a)

-- so that number and area as one number are in the order of the two
early-first : (n a h n' a' h' : ℕ) → (turn n ≡ turn n' → n ≡ n') → a < room → a' < room → Early (code n a) h (code n' a') h'
    → NoLater n a h n' a' h'
early-first n a h n' a' h' e l l' (inl q) = go (dec_lt (turn n) (turn n'))
  where
    go : Dec (turn n < turn n') → NoLater n a h n' a' h'
    go (yes r) = inl r
    go (no r) = inr (e (omega arith), inl (omega arith))
early-first n a h n' a' h' e l l' (inr q) = inr (e (omega arith), inr (omega arith, q.1))

-- a verdict that reports a fault, and is as early as each, is called for
called : (s : Areas) (maps : List ℕ) (v : Verdict) → Found s maps v → ((n a h : ℕ) → Fault s maps n a h → By (code n a) h v)
    → CalledFor s maps v
called s maps accepted f b = b
called s maps (refused n a h) f b =
    let p = placed s maps f in (
      f,
      λ n' a' h' g.
          let q = placed s maps g in
          early-first n a h n' a' h' (turn-once n n' p.0 q.0) p.1 q.1 (b n' a' h' g),
    )

-- ---- the theorem

-- the check answers what the faults call for: accepted exactly where nothing is a fault, otherwise the least fault by its number's turn, then area, then record
pub exactly : (s : Areas) (maps : List ℕ) → CalledFor s maps (check s maps)
exactly s maps = called s maps (check s maps) (found s maps) (λ n a h f. met s maps f)

-- accepted exactly when nothing is a fault: where it is accepted, nothing is
pub accepted-faultless : (s : Areas) (maps : List ℕ) → check s maps ≡ accepted → (n a h : ℕ) → Fault s maps n a h → ⊥
accepted-faultless s maps e = rw e at (exactly s maps)

-- and where nothing is, it is accepted
pub faultless-accepted : (s : Areas) (maps : List ℕ) → ((n a h : ℕ) → Fault s maps n a h → ⊥) → check s maps ≡ accepted
faultless-accepted s maps e = go (check s maps) (found s maps)
  where
    go : (v : Verdict) → Found s maps v → v ≡ accepted
    go accepted f = refl
    go (refused n a h) f = absurd (e n a h f)
