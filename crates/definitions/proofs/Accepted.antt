-- What a passed check says of each record.
-- Assumes nothing.
use mathlib.Core.Path.{sym, subst, ◌∙◌}
use mathlib.Core.Bool.{Bool, true, false, cond}
use mathlib.Core.List.{List, [], ◌∷◌, map}
use Prim.Native.Nat.{ℕ, zero, suc, ◌+◌, ◌*◌, ◌%◌, ◌≤◌, ◌<◌, suc-le-suc}
use native.Mathlib.Nat.{add-zero, zero-add, suc-add, add-suc, zero-lt-suc, le_trans, not-suc-le-zero, le_of_suc-le-suc}
use lib.Dec.{T, eqb, ltb, leb, ltb→lt, leb→le, lit<, lit≤}
use lib.ListN.{length, get_or}
use Rattle.definitions.specs.Lists.{all}
use Rattle.definitions.specs.Areas.{Areas, Arena, N, all_words, constants, expressions, globals, length_of, records_of, limit, limits, all_records, marks_words, mention_count, mention_word, area_number, overrides, pool, size, types, widths, words}
use Rattle.definitions.specs.Roots.{mention}
use Rattle.definitions.specs.Order.{well_ordered}
use Rattle.definitions.specs.Refusals.{Verdict, accepted, check, check1, check2, check3, check4, check5, check6, check7, first_of, held_at, inside, of_module, passes, pool_used, position, refused, runs_before, scan, scan_areas, scan_mentions, scan_records, shaped_at, turn, turns, under}
use Rattle.definitions.proofs.Least.{Each}
use Rattle.definitions.proofs.Turns.{Listed, at_turn, each_at}
use Rattle.definitions.proofs.Judged.{all-at}

-- each of the list passes
abbrev pub EachPasses : List Verdict → Type 0
EachPasses [] = Unit {0}
EachPasses (v ∷ l) = T (passes v) × EachPasses l

pub parts : (l : List Verdict) → T (passes (first_of l)) → EachPasses l
unfolding first_of passes
parts [] t = tt
parts (accepted ∷ l) t = (tt, parts l t)
parts (refused nr a h ∷ l) t = absurd t

-- where the check passes, each number does
pub number-passes : (s : Areas) (maps : List ℕ) → T (passes (check s maps)) → (n : ℕ) → Listed n → T (passes (under s maps n))
unfolding check
number-passes s maps t n l =
    subst (λ m. T (passes (under s maps m))) (at_turn n l)
    (each_at (λ m. T (passes (under s maps m))) turns (each turns (parts _ t)) (turn n) (ltb→lt (turn n) (length turns) l))
  where
    each : (l : List ℕ) → EachPasses (map (under s maps) l) → Each (λ m. T (passes (under s maps m))) l
    each [] e = tt
    each (m ∷ l) e = (e.0, each l e.1)

cond-left : (b : Bool) (v w : Verdict) → (T (passes w) → ⊥) → T (passes (cond b v w)) → T b
cond-left true v w n t = tt
cond-left false v w n t = absurd (n t)

cond-right : (b : Bool) (v w : Verdict) → (T (passes w) → ⊥) → T (passes (cond b v w)) → T (passes v)
cond-right true v w n t = t
cond-right false v w n t = absurd (n t)

cond_both : (b : Bool) (v w : Verdict) → T b → T (passes v) → T (passes (cond b v w))
cond_both true v w t u = u
cond_both false v w t u = absurd t

-- ---- a scan that passes, where each report refuses

module _ (ok : ℕ → Bool) (bad : ℕ → Verdict) where
  scan-from : ((i : ℕ) → T (passes (bad i)) → ⊥) → (h n : ℕ) → T (passes (scan ok bad h n)) → (i : ℕ) → i < n → T (ok (h + i))
  unfolding scan
  scan-from r h zero t i l = absurd (not-suc-le-zero l)
  scan-from r h (suc n) t zero l = rw add-zero (cond-left (ok h) (scan ok bad (suc h) n) (bad h) (r h) t)
  scan-from r h (suc n) t (suc i) l =
      subst (λ k. T (ok k)) (suc-add h i ∙ sym (add-suc h i))
      (scan-from r (suc h) n (cond-right (ok h) (scan ok bad (suc h) n) (bad h) (r h) t) i (le_of_suc-le-suc l))

  pub scan-all : ((i : ℕ) → T (passes (bad i)) → ⊥) → (n : ℕ) → T (passes (scan ok bad 0 n)) → (i : ℕ) → i < n → T (ok i)
  scan-all r n t i l = subst (λ k. T (ok k)) (zero-add i) (scan-from r 0 n t i l)

  from-scan : (h n : ℕ) → ((i : ℕ) → i < n → T (ok (h + i))) → T (passes (scan ok bad h n))
  unfolding scan passes
  from-scan h zero f = tt
  from-scan h (suc n) f =
      cond_both (ok h) (scan ok bad (suc h) n) (bad h) (rw add-zero at (f 0 (zero-lt-suc n)))
      (from-scan (suc h) n (λ i l. subst (λ k. T (ok k)) (add-suc h i ∙ sym (suc-add h i)) (f (suc i) (suc-le-suc l))))

  all-scan : (n : ℕ) → ((i : ℕ) → i < n → T (ok i)) → T (passes (scan ok bad 0 n))
  all-scan n f = from-scan 0 n (λ i l. subst (λ k. T (ok k)) (sym (zero-add i)) (f i l))

pub areas-all : (nr : ℕ) (ok : ℕ → Bool) (n : ℕ) → T (passes (scan_areas nr ok n)) → (i : ℕ) → i < n → T (ok i)
unfolding scan_areas passes
areas-all nr ok n = scan-all ok (λ a. refused nr a 0) (λ i t. t) n

pub all-areas : (nr : ℕ) (ok : ℕ → Bool) (n : ℕ) → ((i : ℕ) → i < n → T (ok i)) → T (passes (scan_areas nr ok n))
unfolding scan_areas
all-areas nr ok n = all-scan ok (λ a. refused nr a 0) n

records-all : (nr : ℕ) (ok : Areas → Arena → ℕ → Bool) (s : Areas) (a : Arena) → T (passes (scan_records nr ok s a))
    → (h : ℕ) → h < size s a → T (ok s a h)
unfolding scan_records passes
records-all nr ok s a = scan-all (ok s a) (refused nr (area_number a)) (λ i t. t) (size s a)

all-records : (nr : ℕ) (ok : Areas → Arena → ℕ → Bool) (s : Areas) (a : Arena) → ((h : ℕ) → h < size s a → T (ok s a h))
    → T (passes (scan_records nr ok s a))
unfolding scan_records
all-records nr ok s a = all-scan (ok s a) (refused nr (area_number a)) (size s a)

mentions-all : (nr : ℕ) (ok : ℕ → Bool) (s : Areas) → T (passes (scan_mentions nr ok s)) → (h : ℕ) → h < mention_count s → T (ok h)
unfolding scan_mentions passes
mentions-all nr ok s = scan-all ok (refused nr 7) (λ i t. t) (mention_count s)

all-mentions : (nr : ℕ) (ok : ℕ → Bool) (s : Areas) → ((h : ℕ) → h < mention_count s → T (ok h)) → T (passes (scan_mentions nr ok s))
unfolding scan_mentions
all-mentions nr ok s = all-scan ok (refused nr 7) (mention_count s)

pub together : (l : List Verdict) → EachPasses l → T (passes (first_of l))
unfolding first_of passes
together [] e = tt
together (accepted ∷ l) e = together l e.1
together (refused nr a h ∷ l) e = e.0

-- ---- the facts

-- checks 1, 2, 4, 5 and 6
pub record Sound (s : Areas) : Type 0 where
  pub whole : (i : ℕ) → i < 8 → T (eqb (length_of s i % get_or widths i 1) 0)
  pub few : (i : ℕ) → i < 8 → T (leb (records_of s i) (get_or limits i 0))
  pub shapes : (a : Arena) (h : ℕ) → h < size s a → T (shaped_at s a h)
  pub members-used : T (eqb (runs_before s types (size s types)) (length (pool s types)))
  pub components-used : T (eqb (runs_before s expressions (size s expressions)) (length (pool s expressions)))
  pub mention-areas : (h : ℕ) → h < mention_count s → T (ltb (mention_word s h 0) 5)
  pub kinds : (h : ℕ) → h < size s expressions → T (of_module s expressions h)
  pub holds : (a : Arena) (h : ℕ) → h < size s a → T (held_at s a h)
  pub mentions : (h : ℕ) → h < mention_count s → T (inside s (mention s h))

-- with check 7
pub record Accepted (s : Areas) : Type 0 where
  pub sound : Sound s
  pub type-order : (h : ℕ) → h < size s types → T (well_ordered s types h)
  pub expression-order : (h : ℕ) → h < size s expressions → T (well_ordered s expressions h)

held-records : (s : Areas) → T (passes (check6 s)) → (a : Arena) (h : ℕ) → h < size s a → T (held_at s a h)
unfolding check6
held-records s t types h l = records-all 6 held_at s types (parts _ t).0 h l
held-records s t constants h l = records-all 6 held_at s constants (parts _ t).1.0 h l
held-records s t overrides h l = records-all 6 held_at s overrides (parts _ t).1.1.0 h l
held-records s t globals h l = records-all 6 held_at s globals (parts _ t).1.1.1.0 h l
held-records s t expressions h l = records-all 6 held_at s expressions (parts _ t).1.1.1.1.0 h l

shaped-records : (s : Areas) → T (passes (check4 s)) → (a : Arena) (h : ℕ) → h < size s a → T (shaped_at s a h)
unfolding check4
shaped-records s t types h l = records-all 4 shaped_at s types (parts _ t).0 h l
shaped-records s t constants h l = records-all 4 shaped_at s constants (parts _ t).1.0 h l
shaped-records s t overrides h l = records-all 4 shaped_at s overrides (parts _ t).1.1.0 h l
shaped-records s t globals h l = records-all 4 shaped_at s globals (parts _ t).1.1.1.0 h l
shaped-records s t expressions h l = records-all 4 shaped_at s expressions (parts _ t).1.1.1.1.0 h l

pub facts : (s : Areas) (maps : List ℕ) → T (passes (check s maps)) → Accepted s
unfolding under turn position turns check1 check2 check4 check5 check6 check7 pool_used passes
facts s maps t =
    let c : (n : ℕ) → Listed n → T (passes (under s maps n)) = number-passes s maps t in
    let c4 = parts _ (c 4 tt) in
    let c6 = parts _ (c 6 tt) in
    let c7 = parts _ (c 7 tt) in
    record {
      sound = record {
        whole = areas-all 1 _ 8 (c 1 tt);
        few = areas-all 2 _ 8 (c 2 tt);
        shapes = shaped-records s (c 4 tt);
        members-used = cond-left (eqb (runs_before s types (size s types)) (length (pool s types))) accepted (refused 4 5 0) (λ r. r) c4.1.1.1.1.1.0;
        components-used = cond-left (eqb (runs_before s expressions (size s expressions)) (length (pool s expressions))) accepted (refused 4 6 0) (λ r. r) c4.1.1.1.1.1.1.0;
        mention-areas = mentions-all 4 (λ h. ltb (mention_word s h 0) 5) s c4.1.1.1.1.1.1.1.0;
        kinds = records-all 5 of_module s expressions (c 5 tt);
        holds = held-records s (c 6 tt);
        mentions = mentions-all 6 (λ h. inside s (mention s h)) s c6.1.1.1.1.1.0;
      };
      type-order = records-all 7 well_ordered s types c7.0;
      expression-order = records-all 7 well_ordered s expressions c7.1.0;
    }

-- ---- how many records there may be

-- an arena is the area of its number
pub as-area : (s : Areas) (P : ℕ → ℕ → Type 0) → ((i : ℕ) → i < 8 → P i (records_of s i)) → (a : Arena) → P (area_number a) (size s a)
unfolding size words records_of length_of widths all_words area_number
as-area s P f types = f 0 (lit< tt)
as-area s P f constants = f 1 (lit< tt)
as-area s P f overrides = f 2 (lit< tt)
as-area s P f globals = f 3 (lit< tt)
as-area s P f expressions = f 4 (lit< tt)

module _ (s : Areas) (few : (i : ℕ) → i < 8 → T (leb (records_of s i) (get_or limits i 0))) where
  -- where each area keeps to its limit, so does an arena
  pub size-limit : (a : Arena) → size s a ≤ limit a
  size-limit = as-area s (λ i n. n ≤ get_or limits i 0) (λ i l. leb→le (records_of s i) (get_or limits i 0) (few i l))

  -- and each has far fewer records than N
  pub area-few : (i : ℕ) → i < 8 → records_of s i < N
  unfolding limits all
  area-few i l =
      le_trans (suc-le-suc (leb→le (records_of s i) (get_or limits i 0) (few i l))) (ltb→lt (get_or limits i 0) N (all-at (λ n. ltb n N) limits 0 tt i l))

  pub size_few : (a : Arena) → size s a < N
  size_few = as-area s (λ i n. n < N) area-few

-- the most records of all arenas are far fewer than N
pub all-few : all_records < N
unfolding all_records limits area_number
all-few = lit< tt

-- and the words of marks have a bit for each
pub all_fit : all_records ≤ 64 * marks_words
unfolding marks_words all_records limits area_number
all_fit = lit≤ tt

-- the facts of numbers 4, 6 and 7 make these pass
passes4 : (s : Areas) → Sound s → T (passes (check4 s))
unfolding check4 pool_used passes
passes4 s c =
    let p : (a : Arena) → T (passes (scan_records 4 shaped_at s a)) = λ a. all-records 4 shaped_at s a (c.shapes a) in
    let p5 = cond_both (eqb (runs_before s types (size s types)) (length (pool s types))) accepted (refused 4 5 0) c.members-used tt in
    let p6 = cond_both (eqb (runs_before s expressions (size s expressions)) (length (pool s expressions))) accepted (refused 4 6 0) c.components-used tt in
    let p7 = all-mentions 4 (λ h. ltb (mention_word s h 0) 5) s c.mention-areas in
    together _ (p types, (p constants, (p overrides, (p globals, (p expressions, (p5, (p6, (p7, tt))))))))

passes6 : (s : Areas) → Sound s → T (passes (check6 s))
unfolding check6
passes6 s c =
    let p : (a : Arena) → T (passes (scan_records 6 held_at s a)) = λ a. all-records 6 held_at s a (c.holds a) in
    let p7 = all-mentions 6 (λ h. inside s (mention s h)) s c.mentions in
    together _ (p types, (p constants, (p overrides, (p globals, (p expressions, (p7, tt))))))

passes7 : (s : Areas) → Accepted s → T (passes (check7 s))
unfolding check7
passes7 s c =
    together _ (all-records 7 well_ordered s types c.type-order, (all-records 7 well_ordered s expressions c.expression-order, tt))

-- the facts, and room in the maps, are all that the check asks
pub accepts : (s : Areas) (maps : List ℕ) → Accepted s → T (passes (check3 s maps)) → T (passes (check s maps))
unfolding check under turns check1 check2 check5
accepts s maps c room =
    let p1 = all-areas 1 _ 8 c.sound.whole in
    let p2 = all-areas 2 _ 8 c.sound.few in
    let p4 = passes4 s c.sound in
    let p5 = all-records 5 of_module s expressions c.sound.kinds in
    let p6 = passes6 s c.sound in
    let p7 = passes7 s c in
    together _ (p1, (p2, (room, (p4, (p5, (p6, (p7, tt)))))))
