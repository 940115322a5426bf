-- "they are carried along unread": modules that differ in tails alone get the same number, place, counts and maps.
-- Assumes nothing.
use mathlib.Core.Path.{◌≡◌, refl, sym, ap, ap₂, ◌∙◌}
use mathlib.Core.Bool.{Bool, true, false, cond, ◌&&◌}
use mathlib.Core.List.{List, [], ◌∷◌, ◌++◌, map}
use Prim.Native.Nat.{ℕ, zero, suc, ◌+◌, ◌/◌, ◌%◌, ◌<◌, max}
use native.Mathlib.Omega.{arith}
use lib.Dec.{eqb, leb, ltb, lit<}
use lib.ListN.{length, get_or}
use Rattle.definitions.specs.Lists.{all, always, count_up, gather, select}
use Rattle.definitions.specs.Areas.{Areas, Arena, Elem, Words, all_words, at, constants, expressions, globals, length_of, mention_count, mention_word}
use Rattle.definitions.specs.Areas.{limits, overrides, pool, records_of, size, types, width, widths, word, words}
use Rattle.definitions.specs.Slots.{Slot, below, body, count, expr_body, form_of, free, layout, may, must, slots, start, tail, type_body, unused}
use Rattle.definitions.specs.References.{has_run, named_by, named_from, references, run, span}
use Rattle.definitions.specs.Order.{behind, later, order, past_dep, sized_by, visits, well_ordered, with_behind}
use Rattle.definitions.specs.Roots.{common_roots, is_abstract, is_named, mention, more_roots, named_override, root_constant, roots, those}
use Rattle.definitions.specs.Sweep.{has, kept, kept_from, sweep, visit}
use Rattle.definitions.specs.Refusals.{Verdict, accepted, refused, check, check1, check2, check3, check4, check5, check6, check7, every, held, held_at, inside}
use Rattle.definitions.specs.Refusals.{of_module, pool_used, runs_before, scan, scan_areas, scan_mentions, scan_records, shaped, shaped_at, turns, under}
use Rattle.definitions.specs.Numbering.{is_kept, map_after, new_handle}
use Rattle.definitions.specs.Records.{runs_up_to}
use Rattle.definitions.specs.Outcome.{Maps, Outcome, kept_counts, lengths, maps_after, outcome, outcome_of}
use Rattle.definitions.proofs.ListLaws.{total-cong}
use Rattle.definitions.proofs.Reading.{body-length}

-- two modules that are the same but for the words of their tails
pub record SameBodies (s t : Areas) : Type 0 where
  pub lengths : (a : Arena) → length (words s a) ≡ length (words t a)
  pub bodies : (a : Arena) (h k : ℕ) → k + length tail < width a → word s a h k ≡ word t a h k
  pub members : s.members ≡ t.members
  pub components : s.components ≡ t.components
  pub mentions : s.mentions ≡ t.mentions

-- ---- what is the same one by one is the same of all

all-cong : {A : Type 0} (p q : A → Bool) → ((x : A) → p x ≡ q x) → (l : List A) → all p l ≡ all q l
unfolding all
all-cong p q e [] = refl
all-cong p q e (x ∷ l) = ap₂ (λ b c. b && c) (e x) (all-cong p q e l)

map-cong : {A B : Type 0} (f g : A → B) → ((x : A) → f x ≡ g x) → (l : List A) → map f l ≡ map g l
map-cong f g e [] = refl
map-cong f g e (x ∷ l) = ap₂ (λ y m. y ∷ m) (e x) (map-cong f g e l)

-- the length of the list at a place
length_at : (l : List Words) (i : ℕ) → length (get_or l i []) ≡ get_or (map length l) i 0
length_at [] i = refl
length_at (x ∷ l) zero = refl
length_at (x ∷ l) (suc i) = length_at l i

select-cong : (p q : ℕ → Bool) → ((h : ℕ) → p h ≡ q h) → (l : List ℕ) → select p l ≡ select q l
unfolding select
select-cong p q e [] = refl
select-cong p q e (h ∷ l) = ap₂ (λ b m. cond b (h ∷ m) m) (e h) (select-cong p q e l)

gather_cong : (p : ℕ → Bool) (f g : ℕ → Words) → ((h : ℕ) → f h ≡ g h) → (n : ℕ) → gather p f n ≡ gather p g n
unfolding gather
gather_cong p f g e zero = refl
gather_cong p f g e (suc n) = ap₂ (λ l m. l ++ cond (p n) m []) (gather_cong p f g e n) (e n)

scan-cong : (ok ok' : ℕ → Bool) (bad : ℕ → Verdict) → ((h : ℕ) → ok h ≡ ok' h) → (i n : ℕ) → scan ok bad i n ≡ scan ok' bad i n
unfolding scan
scan-cong ok ok' bad e i zero = refl
scan-cong ok ok' bad e i (suc n) = ap₂ (λ b v. cond b v (bad i)) (e i) (scan-cong ok ok' bad e (suc i) n)

-- a test that every free slot passes, of words that are the same but in the tail
every-cong : (p q : Slot → ℕ → Bool) → ((l : Slot) (w : ℕ) → p l w ≡ q l w) → ((w : ℕ) → q free w ≡ true) → (f g : ℕ → ℕ) (k : ℕ) (ls : List Slot)
    → ((j : ℕ) → j < k + length ls → f j ≡ g j) → every p f k (ls ++ tail) ≡ every q g k (ls ++ tail)
unfolding every
every-cong p q e t f g k [] same = simp (e, t)
every-cong p q e t f g k (l ∷ ls) same =
    ap₂ (λ b c. b && c) (e l (f k) ∙ ap (q l) (same k (omega arith))) (every-cong p q e t f g (suc k) ls (λ j b. same j (omega arith)))

named-cong : (f g : ℕ → ℕ) (k : ℕ) (ls : List Slot) → ((j : ℕ) → j < k + length ls → f j ≡ g j)
    → named_from f k (ls ++ tail) ≡ named_from g k (ls ++ tail)
unfolding named_from named_by
named-cong f g k [] same = refl
named-cong f g k (l ∷ ls) same = ap₂ (λ w r. named_by l w ++ r) (same k (omega arith)) (named-cong f g (suc k) ls (λ j b. same j (omega arith)))

module _ (s t : Areas) (e : SameBodies s t) where
  -- ---- records

  size_same : (a : Arena) → size s a ≡ size t a
  unfolding size
  size_same a = ap (λ n. n / width a) (e.lengths a)

  pool-same : (a : Arena) → pool s a ≡ pool t a
  unfolding pool
  pool-same types = e.members
  pool-same constants = refl
  pool-same overrides = refl
  pool-same globals = refl
  pool-same expressions = e.components

  has-run-same : (a : Arena) (h : ℕ) → has_run s a h ≡ has_run t a h
  unfolding has_run width
  has-run-same types h = ap (λ w. eqb w 3) (e.bodies types h 0 (lit< tt))
  has-run-same constants h = refl
  has-run-same overrides h = refl
  has-run-same globals h = refl
  has-run-same expressions h = ap (λ w. eqb w 8) (e.bodies expressions h 0 (lit< tt))

  span_same : (a : Arena) (h : ℕ) → span s a h ≡ span t a h
  unfolding span has_run width
  span_same types h = ap₂ (λ b w. cond b w 0) (has-run-same types h) (e.bodies types h 3 (lit< tt))
  span_same constants h = refl
  span_same overrides h = refl
  span_same globals h = refl
  span_same expressions h = ap₂ (λ b w. cond b w 0) (has-run-same expressions h) (e.bodies expressions h 3 (lit< tt))

  run-same : (a : Arena) (h : ℕ) → run s a h ≡ run t a h
  unfolding run span has_run width
  run-same types h = rw (span_same types h, e.bodies types h 2 (lit< tt), pool-same types) refl
  run-same constants h = refl
  run-same overrides h = refl
  run-same globals h = refl
  run-same expressions h = rw (span_same expressions h, e.bodies expressions h 2 (lit< tt), pool-same expressions) refl

  form-same : (h : ℕ) → form_of (word s expressions h) ≡ form_of (word t expressions h)
  unfolding form_of width
  form-same h = rw (e.bodies expressions h 0 (lit< tt), e.bodies expressions h 2 (lit< tt), e.bodies expressions h 6 (lit< tt)) refl

  body_same : (a : Arena) (h : ℕ) → body a (word s a h) ≡ body a (word t a h)
  unfolding body width
  body_same types h = ap type_body (e.bodies types h 0 (lit< tt))
  body_same constants h = refl
  body_same overrides h = refl
  body_same globals h = refl
  body_same expressions h = ap₂ expr_body (e.bodies expressions h 0 (lit< tt)) (form-same h)

  words_same : (a : Arena) (h j : ℕ) → j < 0 + length (body a (word s a h)) → word s a h j ≡ word t a h j
  words_same a h j b = e.bodies a h j (omega (arith, body-length a (word s a h)))

  -- a test that passes over tails
  layout-same : (a : Arena) (h : ℕ) (p q : Slot → ℕ → Bool) → ((l : Slot) (w : ℕ) → p l w ≡ q l w) → ((w : ℕ) → q free w ≡ true)
      → every p (word s a h) 0 (layout s a h) ≡ every q (word t a h) 0 (layout t a h)
  unfolding layout slots
  layout-same a h p q r f =
      every-cong p q r f (word s a h) (word t a h) 0 (body a (word s a h)) (words_same a h)
      ∙ ap (λ ls. every q (word t a h) 0 (ls ++ tail)) (body_same a h)

  references-same : (x : Elem) → references s x ≡ references t x
  unfolding references layout slots
  references-same (at a h) =
      ap₂ (λ l r. l ++ map (at a) r)
      (named-cong (word s a h) (word t a h) 0 (body a (word s a h)) (words_same a h) ∙ ap (λ ls. named_from (word t a h) 0 (ls ++ tail)) (body_same a h))
      (run-same a h)

  -- ---- order

  behind-same : (x : Elem) → behind s x ≡ behind t x
  unfolding behind
  behind-same (at types h) = refl
  behind-same (at constants h) = references-same (at constants h)
  behind-same (at overrides h) = references-same (at overrides h)
  behind-same (at globals h) = references-same (at globals h)
  behind-same (at expressions h) = refl

  with-same : (l : List Elem) → with_behind s l ≡ with_behind t l
  unfolding with_behind
  with-same [] = refl
  with-same (x ∷ l) = ap₂ (λ m r. x ∷ (m ++ r)) (behind-same x) (with-same l)

  sized_same : (u : ℕ) → sized_by s u ≡ sized_by t u
  unfolding sized_by width
  sized_same u = rw (e.bodies types u 0 (lit< tt), e.bodies types u 3 (lit< tt), e.bodies overrides (word t types u 3) 2 (lit< tt)) refl

  dep-same : (u : ℕ) → past_dep s u ≡ past_dep t u
  unfolding past_dep
  dep-same zero = sized_same zero
  dep-same (suc u) = ap₂ max (dep-same u) (sized_same (suc u))

  visits-same : (u n : ℕ) → visits s u n ≡ visits t u n
  unfolding visits
  visits-same zero n = refl
  visits-same (suc u) n = rw (dep-same u, visits-same u _) refl

  order_same : order s ≡ order t
  unfolding order
  order_same = rw (size_same types, size_same expressions) (visits-same (size t types) (size t expressions))

  later_same : (x y : Elem) → later s x y ≡ later t x y
  unfolding later
  later_same (at types u) (at types v) = refl
  later_same (at types u) (at constants h) = refl
  later_same (at types u) (at overrides h) = refl
  later_same (at types u) (at globals h) = refl
  later_same (at types u) (at expressions h) = refl
  later_same (at constants c) y = refl
  later_same (at overrides c) y = refl
  later_same (at globals c) y = refl
  later_same (at expressions i) (at types u) = rw (dep-same u) refl
  later_same (at expressions i) (at constants h) = refl
  later_same (at expressions i) (at overrides h) = refl
  later_same (at expressions i) (at globals h) = refl
  later_same (at expressions i) (at expressions h) = refl

  ordered_same : (a : Arena) (h : ℕ) → well_ordered s a h ≡ well_ordered t a h
  unfolding well_ordered
  ordered_same a h =
      ap (λ l. all (later s (at a h)) l) (ap (with_behind s) (references-same (at a h)) ∙ with-same (references t (at a h)))
      ∙ all-cong (later s (at a h)) (later t (at a h)) (later_same (at a h)) (with_behind t (references t (at a h)))

  -- ---- the check

  runs_same : (a : Arena) (n : ℕ) → runs_before s a n ≡ runs_before t a n
  unfolding runs_before
  runs_same a n = total-cong always (span s a) (span t a) n (λ h l k. span_same a h)

  shaped-same : (a : Arena) (h : ℕ) (l : Slot) (w : ℕ) → shaped s a h l w ≡ shaped t a h l w
  unfolding shaped
  shaped-same a h unused w = refl
  shaped-same a h free w = refl
  shaped-same a h (below n) w = refl
  shaped-same a h (must b) w = refl
  shaped-same a h (may b) w = refl
  shaped-same a h start w = rw (runs_same a h, span_same a h, pool-same a) refl
  shaped-same a h count w = refl

  inside-same : (x : Elem) → inside s x ≡ inside t x
  unfolding inside
  inside-same (at a h) = rw (size_same a) refl

  held_same : (l : Slot) (w : ℕ) → held s l w ≡ held t l w
  unfolding held
  held_same unused w = refl
  held_same free w = refl
  held_same (below n) w = refl
  held_same (must a) w = inside-same (at a w)
  held_same (may a) w = rw (inside-same (at a w)) refl
  held_same start w = refl
  held_same count w = refl

  shaped-at-same : (a : Arena) (h : ℕ) → shaped_at s a h ≡ shaped_at t a h
  unfolding shaped_at shaped
  shaped-at-same a h = layout-same a h (shaped s a h) (shaped t a h) (shaped-same a h) (λ w. refl)

  held-at-same : (a : Arena) (h : ℕ) → held_at s a h ≡ held_at t a h
  unfolding held_at held
  held-at-same a h =
      ap₂ (λ b c. b && c) (layout-same a h (held s) (held t) held_same (λ w. refl))
      (ap (all (λ w. inside s (at a w))) (run-same a h) ∙ all-cong _ _ (λ w. inside-same (at a w)) (run t a h))

  of-module-same : (h : ℕ) → of_module s expressions h ≡ of_module t expressions h
  unfolding of_module width
  of-module-same h = rw (e.bodies expressions h 0 (lit< tt)) refl

  records-same : (nr : ℕ) (ok : Areas → Arena → ℕ → Bool) (a : Arena) → ((h : ℕ) → ok s a h ≡ ok t a h) → scan_records nr ok s a ≡ scan_records nr ok t a
  unfolding scan_records
  records-same nr ok a r = rw (size_same a) (scan-cong (ok s a) (ok t a) _ r 0 (size t a))

  lengths-same : map length (all_words s) ≡ map length (all_words t)
  unfolding all_words words
  lengths-same =
      let a = e.lengths in
      next (a types) (next (a constants) (next (a overrides) (next (a globals) (next (a expressions)
      (next (ap length e.members) (next (ap length e.components) (next (ap length e.mentions) refl)))))))
    where
      next : {x y : ℕ} {l m : List ℕ} → x ≡ y → l ≡ m → x ∷ l ≡ y ∷ m
      next p q = ap₂ (λ x l. x ∷ l) p q

  length-same : (i : ℕ) → length_of s i ≡ length_of t i
  unfolding length_of
  length-same i = length_at (all_words s) i ∙ ap (λ l. get_or l i 0) lengths-same ∙ sym (length_at (all_words t) i)

  count_same : (i : ℕ) → records_of s i ≡ records_of t i
  unfolding records_of
  count_same i = ap (λ n. n / get_or widths i 1) (length-same i)

  mention-word-same : (h k : ℕ) → mention_word s h k ≡ mention_word t h k
  unfolding mention_word
  mention-word-same h k = rw e.mentions refl

  mention-same : (h : ℕ) → mention s h ≡ mention t h
  unfolding mention
  mention-same h = rw (mention-word-same h 0, mention-word-same h 1) refl

  mention-count-same : mention_count s ≡ mention_count t
  unfolding mention_count
  mention-count-same = rw e.mentions refl

  mentions-same : (nr : ℕ) (ok ok' : ℕ → Bool) → ((h : ℕ) → ok h ≡ ok' h) → scan_mentions nr ok s ≡ scan_mentions nr ok' t
  unfolding scan_mentions
  mentions-same nr ok ok' r = rw mention-count-same (scan-cong ok ok' _ r 0 (mention_count t))

  pools-same : (area : ℕ) (a : Arena) → pool_used area s a ≡ pool_used area t a
  unfolding pool_used
  pools-same area a = rw (size_same a, runs_same a (size t a), pool-same a) refl

  -- a test of every area
  areas-same : (nr : ℕ) (ok ok' : ℕ → Bool) → ((i : ℕ) → ok i ≡ ok' i) → (n : ℕ) → scan_areas nr ok n ≡ scan_areas nr ok' n
  unfolding scan_areas
  areas-same nr ok ok' r n = scan-cong ok ok' _ r 0 n

  check1-same : check1 s ≡ check1 t
  unfolding check1
  check1-same = areas-same 1 _ _ (λ i. ap (λ n. eqb (n % get_or widths i 1) 0) (length-same i)) 8

  check2-same : check2 s ≡ check2 t
  unfolding check2
  check2-same = areas-same 2 _ _ (λ i. ap (λ n. leb n (get_or limits i 0)) (count_same i)) 8

  check3-same : (maps : List ℕ) → check3 s maps ≡ check3 t maps
  unfolding check3
  check3-same maps = areas-same 3 _ _ (λ i. ap (λ n. leb n (get_or maps i 0)) (count_same i)) 5

  check4-same : check4 s ≡ check4 t
  unfolding check4
  check4-same =
      let shapes : (a : Arena) → scan_records 4 shaped_at s a ≡ scan_records 4 shaped_at t a = λ a. records-same 4 shaped_at a (shaped-at-same a) in
      let areas : scan_mentions 4 (λ h. ltb (mention_word s h 0) 5) s ≡ scan_mentions 4 (λ h. ltb (mention_word t h 0) 5) t =
      mentions-same 4 _ _ (λ h. ap (λ w. ltb w 5) (mention-word-same h 0)) in
      rw (shapes types, shapes constants, shapes overrides, shapes globals, shapes expressions, pools-same 5 types, pools-same 6 expressions, areas) refl

  check5-same : check5 s ≡ check5 t
  unfolding check5
  check5-same = records-same 5 of_module expressions of-module-same

  check6-same : check6 s ≡ check6 t
  unfolding check6
  check6-same =
      let holds : (a : Arena) → scan_records 6 held_at s a ≡ scan_records 6 held_at t a = λ a. records-same 6 held_at a (held-at-same a) in
      let named : scan_mentions 6 (λ h. inside s (mention s h)) s ≡ scan_mentions 6 (λ h. inside t (mention t h)) t =
      mentions-same 6 _ _ (λ h. ap (inside s) (mention-same h) ∙ inside-same (mention t h)) in
      rw (holds types, holds constants, holds overrides, holds globals, holds expressions, named) refl

  check7-same : check7 s ≡ check7 t
  unfolding check7
  check7-same = rw (records-same 7 well_ordered types (ordered_same types), records-same 7 well_ordered expressions (ordered_same expressions)) refl

  check-same : (maps : List ℕ) → check s maps ≡ check t maps
  unfolding check under turns
  check-same maps = rw (check1-same, check2-same, check3-same maps, check4-same, check5-same, check6-same, check7-same) refl

  -- ---- what is kept

  those-same : (a : Arena) (p q : ℕ → Bool) → ((h : ℕ) → p h ≡ q h) → those s a p ≡ those t a q
  unfolding those
  those-same a p q r = rw (size_same a) (ap (map (at a)) (select-cong p q r (count_up 0 (size t a))))

  abstract-same : (h : ℕ) → is_abstract s h ≡ is_abstract t h
  unfolding is_abstract width
  abstract-same h = rw (e.bodies types h 1 (lit< tt)) refl

  root-constant-same : (h : ℕ) → root_constant s h ≡ root_constant t h
  unfolding root_constant width
  root-constant-same h =
      rw (e.bodies constants h 0 (lit< tt), e.bodies constants h 1 (lit< tt), abstract-same (word t constants h 1)) refl

  named-override-same : (h : ℕ) → named_override s h ≡ named_override t h
  unfolding named_override width
  named-override-same h = rw (e.bodies overrides h 0 (lit< tt)) refl

  named-type-same : (h : ℕ) → is_named s h ≡ is_named t h
  unfolding is_named width
  named-type-same h = rw (e.bodies types h 1 (lit< tt)) refl

  common-same : common_roots s ≡ common_roots t
  unfolding common_roots
  common-same =
      let all-mentions : map (mention s) (count_up 0 (mention_count s)) ≡ map (mention t) (count_up 0 (mention_count t)) =
      rw mention-count-same (map-cong (mention s) (mention t) mention-same (count_up 0 (mention_count t))) in
      ap₂ (λ l r. l ++ r) all-mentions (those-same constants (root_constant s) (root_constant t) root-constant-same)

  roots-same : (keep : Bool) → roots s keep ≡ roots t keep
  unfolding roots more_roots
  roots-same true =
      rw (common-same, those-same globals always always (λ h. refl), those-same overrides _ _ named-override-same, those-same types _ _ named-type-same) refl
  roots-same false = rw common-same refl

  sweep-same : (xs m : List Elem) → sweep s xs m ≡ sweep t xs m
  unfolding sweep visit
  sweep-same [] m = refl
  sweep-same (x ∷ xs) m =
      let marks : visit s m x ≡ visit t m x =
      ap (λ l. cond (has m x) (l ++ m) m) (ap (with_behind s) (references-same x) ∙ with-same (references t x)) in
      ap (sweep s xs) marks ∙ sweep-same xs (visit t m x)

  kept_same : (keep : Bool) → kept s keep ≡ kept t keep
  unfolding kept_from
  kept_same keep =
      rw (order_same, roots-same keep, with-same (roots t keep)) (sweep-same (order t) (with_behind t (roots t keep)))

  -- ---- what comes of it

  runs-up-to-same : (m : List Elem) (a : Arena) (n : ℕ) → runs_up_to s m a n ≡ runs_up_to t m a n
  unfolding runs_up_to
  runs-up-to-same m a n = gather_cong (is_kept m a) _ _ (λ h. ap (map (new_handle (is_kept m a))) (run-same a h)) n

  counts_same : (m : List Elem) → kept_counts s m ≡ kept_counts t m
  unfolding kept_counts
  counts_same m =
      rw (size_same types, size_same constants, size_same overrides, size_same globals, size_same expressions, runs-up-to-same m types (size t types), runs-up-to-same m expressions (size t expressions)) refl

  maps-same : (m : List Elem) (p : Maps) → maps_after s m p ≡ maps_after t m p
  unfolding maps_after map_after
  maps-same m p = rw (size_same types, size_same constants, size_same overrides, size_same globals, size_same expressions) refl

-- two outcomes that are the same but for the areas
pub record SameAnswer (r q : Outcome) : Type 0 where
  pub number : r.number ≡ q.number
  pub area : r.area ≡ q.area
  pub record_number : r.record_number ≡ q.record_number
  pub counts : r.counts ≡ q.counts
  pub maps : r.maps ≡ q.maps

-- no word of a tail has a part in the answer or in the maps
pub unread : (s t : Areas) → SameBodies s t → (p : Maps) (keep : Bool) → SameAnswer (outcome s p keep) (outcome t p keep)
unfolding outcome
unread s t e p keep = rw (check-same s t e (lengths p), kept_same s t e keep) (go (check t (lengths p)))
  where
    go : (v : Verdict) → SameAnswer (outcome_of s p (kept t keep) v) (outcome_of t p (kept t keep) v)
    go accepted = unfold outcome_of in (record { number = refl; area = refl; record_number = refl; counts = counts_same s t e (kept t keep); maps = maps-same s t e (kept t keep) p })
    go (refused nr a h) = unfold outcome_of in (record { number = refl; area = refl; record_number = refl; counts = refl; maps = refl })
