-- What rewriting by the maps of a pass leaves of an accepted module: the areas of document 01.
-- Assumes nothing.
use mathlib.Core.Path.{◌≡◌, refl, sym, ap, ap₂, subst, ◌∙◌}
use mathlib.Core.Bool.{Bool, true, false, not, cond}
use mathlib.Core.List.{List, [], ◌∷◌, ◌++◌, map, append-nil}
use Prim.Native.Nat.{ℕ, zero, suc, ◌+◌, ◌*◌, ◌/◌, ◌%◌, ◌≤◌, ◌<◌, min}
use native.Mathlib.Nat.{le_refl, le_trans, add-zero, mul-zero, div-one, div-add-mod', min-eq_left}
use native.Mathlib.Omega.{arith}
use lib.Dec.{T, eqb, eqb→eq, lit<}
use lib.ListN.{length, get_or, take, drop, get_or-append, drop_of_length-le}
use borrow.Author.Tests.{ne_eqb, eqb-false}
use Rattle.definitions.specs.Lists.{total, gather, always, all}
use Rattle.definitions.specs.Areas.{Words, N, Arena, types, constants, overrides, globals, expressions, Areas, areas_of, Elem, at, numbered, words, size, word, pool, records_of, length_of, all_words, widths, mention_count, mention_width, mention_word}
use Rattle.definitions.specs.Slots.{Slot, unused, free, below, must, may, start, count, layout}
use Rattle.definitions.specs.References.{has_run, span, run}
use Rattle.definitions.specs.Roots.{mention}
use Rattle.definitions.specs.Refusals.{every, held, held_at, inside as test, runs_before}
use Rattle.definitions.specs.Numbering.{rank, new_handle, map_up_to, is_kept, map_after}
use Rattle.definitions.specs.Records.{start_after, adjusted, adjusted_from, record_after, records_up_to, runs_up_to, mention_after, mentions_up_to, kept_areas, padded, areas_after}
use Rattle.definitions.specs.Outcome.{Maps, map_of, maps_after}
use Rattle.definitions.specs.MapEntries.{lookup}
use Rattle.definitions.proofs.Least.{and_left, and_right, Within}
use Rattle.definitions.proofs.Accepted.{Sound, area-few, size_few}
use Rattle.definitions.proofs.Kept.{SlotHolds, EachSlot, Inside, inside-lt, slots-inside}
use Rattle.definitions.proofs.ListLaws.{total-any, total_mono, total-cong, total-scale, length-gather, gather-word}
use Rattle.definitions.proofs.Places.{rank-le}
use Rattle.definitions.proofs.Counts.{map-length}
use Rattle.definitions.proofs.Reading.{run-there}
use Rattle.slots.proofs.Laws.{span-in}
use Rattle.adjust.specs.Rewrite.{runs_by, kept_by, adjusted_by, record_from, span_of, start_by, record_by, arena_by, run_by, pool_by, mention_by, mentions_by, areas_by}

-- what is the same at each number is the same in all
gather-same : (p r : ℕ → Bool) (f g : ℕ → Words) (n : ℕ) → ((h : ℕ) → h < n → p h ≡ r h) → ((h : ℕ) → h < n → f h ≡ g h) → gather p f n ≡ gather r g n
unfolding gather
gather-same p r f g zero e q = refl
gather-same p r f g (suc n) e q =
    ap₂ ◌++◌ (gather-same p r f g n (λ h l. e h (le_trans l (omega arith))) (λ h l. q h (le_trans l (omega arith))))
    (ap₂ (λ b l. cond b l []) (e n (le_refl (suc n))) (q n (le_refl (suc n))))

total-same : (p r : ℕ → Bool) (f g : ℕ → ℕ) (n : ℕ) → ((h : ℕ) → h < n → p h ≡ r h) → ((h : ℕ) → h < n → f h ≡ g h) → total p f n ≡ total r g n
unfolding total
total-same p r f g zero e q = refl
total-same p r f g (suc n) e q =
    let i : total p f n ≡ total r g n = total-same p r f g n (λ h l. e h (le_trans l (omega arith))) (λ h l. q h (le_trans l (omega arith))) in
    rw (i, e n (le_refl (suc n)), q n (le_refl (suc n)))

-- the map of the first n numbers has the place of each
map_at : (p : ℕ → Bool) (n h : ℕ) → h < n → get_or (map_up_to p n) h N ≡ new_handle p h
unfolding map_up_to
map_at p n h l =
    let one : ℕ → Words = λ i. new_handle p i ∷ [] in
    let e : total always (λ i. length (one i)) h ≡ h = sym (length-gather always one h) ∙ map-length p h in
    ap (λ k. get_or (gather always one n) k N) (sym (add-zero h) ∙ ap (λ k. k + 0) (sym e)) ∙ gather-word always one h n 0 N tt l (lit< tt)

module _ (s : Areas) (m : List Elem) (p : Maps) where
  -- the maps after the pass
  abbrev pub maps : Maps
  maps = maps_after s m p

  map_is : (a : Arena) → map_of maps a ≡ map_after s m a (map_of p a)
  unfolding map_of maps_after
  map_is types = refl
  map_is constants = refl
  map_is overrides = refl
  map_is globals = refl
  map_is expressions = refl

  -- a map has the new handle or N at each old record
  pub lookup-after : (a : Arena) (h : ℕ) → h < size s a → lookup (map_of maps a) h ≡ new_handle (is_kept m a) h
  unfolding lookup map_after
  lookup-after a h l =
      ap (λ w. get_or w h N) (map_is a)
      ∙ get_or-append (map_up_to (is_kept m a) (size s a)) _ N h (subst (λ n. h < n) (sym (map-length (is_kept m a) (size s a))) l)
      ∙ map_at (is_kept m a) (size s a) h l

  module _ (c : Sound s) where
    -- what a map keeps is what is kept
    pub kept-after : (a : Arena) (h : ℕ) → h < size s a → kept_by (map_of maps a) h ≡ is_kept m a h
    unfolding kept_by new_handle
    kept-after a h l = ap (λ w. not (eqb w N)) (lookup-after a h l) ∙ go (is_kept m a h)
      where
        go : (b : Bool) → not (eqb (cond b (rank (is_kept m a) h) N) N) ≡ b
        go true = rw (ne_eqb (rank (is_kept m a) h) N (λ e. omega (arith, rank-le (is_kept m a) h, size_few s c.few a)))
        go false = refl

    -- ---- the starts

    span-is : (a : Arena) (h : ℕ) → span_of a (words s a) h ≡ span s a h
    unfolding word
    span-is a h = sym (span-in s a h)

    -- the runs fill a pool of few words
    runs-in : (a : Arena) → T (eqb (runs_before s a (size s a)) (length (pool s a))) → length (pool s a) / 1 < N → runs_before s a (size s a) < N
    runs-in a t l = omega (arith, eqb→eq (runs_before s a (size s a)) (length (pool s a)) t, div-one (length (pool s a)))

    no-runs : (a : Arena) → ((h : ℕ) → span s a h ≡ 0) → runs_before s a (size s a) < N
    unfolding runs_before
    no-runs a e = omega (arith, total-cong always (span s a) (λ _. 0) (size s a) (λ h l t. e h) ∙ total-scale always 0 (size s a) ∙ mul-zero _)

    runs-few : (a : Arena) → runs_before s a (size s a) < N
    unfolding records_of length_of widths all_words pool span has_run
    runs-few types = runs-in types c.members-used (area-few s c.few 5 (lit< tt))
    runs-few constants = no-runs constants (λ h. refl)
    runs-few overrides = no-runs overrides (λ h. refl)
    runs-few globals = no-runs globals (λ h. refl)
    runs-few expressions = runs-in expressions c.components-used (area-few s c.few 6 (lit< tt))

    -- so no start is cut off at N
    start_is : (a : Arena) (h : ℕ) → h ≤ size s a → start_by (map_of maps a) a (words s a) h ≡ start_after s m a h
    unfolding start_by start_after runs_before
    start_is a h l =
        let few : total (is_kept m a) (span s a) h ≤ N =
        omega (arith, total-any (is_kept m a) (span s a) h, total_mono always (span s a) (size s a) h l, runs-few a) in
        ap (λ n. min n N) (total-same _ _ _ _ h (λ i k. kept-after a i (le_trans k l)) (λ i k. span-is a i)) ∙ min-eq_left few

    -- ---- the pools

    -- each of its handles is inside
    map-places : (a : Arena) (ws : Words) → T (all (λ w. test s (at a w)) ws) → map (lookup (map_of maps a)) ws ≡ map (new_handle (is_kept m a)) ws
    unfolding all
    map-places a [] t = refl
    map-places a (w ∷ ws) t =
        ap₂ (λ x r. x ∷ r) (lookup-after a w (inside-lt s a w (and_left (test s (at a w)) (all (λ w. test s (at a w)) ws) t)))
        (map-places a ws (and_right (test s (at a w)) (all (λ w. test s (at a w)) ws) t))

    run-after : (a : Arena) (h : ℕ) → h < size s a → run_by (map_of maps a) a (words s a) (pool s a) h ≡ map (new_handle (is_kept m a)) (run s a h)
    unfolding run_by runs_before held_at
    run-after a h l =
        ap₂ (λ n k. map (lookup (map_of maps a)) (take n (drop k (pool s a)))) (span-is a h)
        (total-same always always _ _ h (λ i k. refl) (λ i k. span-is a i))
        ∙ ap (map (lookup (map_of maps a))) (sym (run-there s m c a h l))
        ∙ map-places a (run s a h) (and_right (every (held s) (word s a h) 0 (layout s a h)) (all (λ w. test s (at a w)) (run s a h)) (c.holds a h l))

    -- the runs of the kept records
    pub runs_after : (a : Arena) → runs_by (map_of maps a) a (words s a) (pool s a) ≡ runs_up_to s m a (size s a)
    unfolding runs_up_to size
    runs_after a = gather-same _ _ _ _ (size s a) (kept-after a) (run-after a)

    -- a pool holds them, then N to its old end
    pub pool-after : (a : Arena) → pool_by (map_of maps a) a (words s a) (pool s a) ≡ padded (pool s a) (runs_up_to s m a (size s a))
    unfolding pool_by
    pool-after a = ap (padded (pool s a)) (runs_after a)

    -- ---- the mentions

    mention-after : (h : ℕ) → h < mention_count s → mention_by maps s.mentions h ≡ mention_after s m h
    unfolding mention_by mention_after mention_word mention
    mention-after h l =
        ap (λ w. mention_word s h 0 ∷ w ∷ [])
        (lookup-after (numbered (mention_word s h 0)) (mention_word s h 1) (inside-lt s (numbered (mention_word s h 0)) (mention_word s h 1) (c.mentions h l)))

    -- each mention is adjusted, and no word is past the last
    pub mentions-after : mentions_by maps s.mentions ≡ mentions_up_to s m (mention_count s)
    unfolding mentions_by mentions_up_to mention_count length_of all_words widths
    mentions-after =
        let n : length s.mentions % mention_width ≡ 0 = eqb→eq (length s.mentions % mention_width) 0 (c.whole 7 (lit< tt)) in
        let q : length s.mentions ≤ length s.mentions / mention_width * mention_width = omega (arith, div-add-mod' (length s.mentions) mention_width) in
        ap₂ ◌++◌ (gather-same always always _ _ (mention_count s) (λ h l. refl) mention-after) (drop_of_length-le s.mentions q) ∙ append-nil _

    -- ---- the arenas

    module _ (inside : Within m (Inside s)) where
      slot-after : (b : ℕ) (l : Slot) (w : ℕ) → SlotHolds (Inside s) l w → adjusted_by maps b l w ≡ adjusted m b l w
      unfolding adjusted_by adjusted
      slot-after b unused w i = refl
      slot-after b free w i = refl
      slot-after b (below n) w i = refl
      slot-after b (must a) w i = lookup-after a w (inside-lt s a w i)
      slot-after b (may a) w i = go (eqb w N) (eqb-false w N)
        where
          go : (t : Bool) → (t ≡ false → w ≡ N → ⊥) → cond t N (lookup (map_of maps a) w) ≡ cond t N (new_handle (is_kept m a) w)
          go true n = refl
          go false n = lookup-after a w (inside-lt s a w (i (n refl)))
      slot-after b start w i = refl
      slot-after b count w i = refl

      slots-after : (b : ℕ) (f : ℕ → ℕ) (k : ℕ) (ls : List Slot) → EachSlot (Inside s) f k ls → record_from maps b f k ls ≡ adjusted_from m b f k ls
      unfolding record_from adjusted_from
      slots-after b f k [] i = refl
      slots-after b f k (l ∷ ls) i = ap₂ (λ w r. w ∷ r) (slot-after b l (f k) i.0) (slots-after b f (suc k) ls i.1)

      record-after : (a : Arena) (h : ℕ) → h < size s a → record_by maps a (words s a) h ≡ record_after s m a h
      unfolding record_by record_after layout word held_at
      record-after a h l =
          ap (λ b. record_from maps b (word s a h) 0 (layout s a h)) (start_is a h (le_trans (omega arith) l))
          ∙ slots-after (start_after s m a h) (word s a h) 0 (layout s a h)
          (slots-inside s (word s a h) 0 (layout s a h) (and_left (every (held s) (word s a h) 0 (layout s a h)) (all (λ w. test s (at a w)) (run s a h)) (c.holds a h l)))

      -- an arena holds its kept records, adjusted, then N to its old end
      pub arena-after : (a : Arena) → arena_by maps a (words s a) ≡ padded (words s a) (records_up_to s m a (size s a))
      unfolding arena_by records_up_to size
      arena-after a = ap (padded (words s a)) (gather-same _ _ _ _ (size s a) (kept-after a) (record-after a))

      -- so the three functions, each applied to the areas that it is for, leave the areas of document 01
      pub areas-after : areas_by maps s ≡ areas_after s m
      unfolding words pool map_of kept_areas areas_after areas_by
      areas-after = λ i.
          areas_of (arena-after types i) (arena-after constants i) (arena-after overrides i) (arena-after globals i) (arena-after expressions i) (pool-after types i)
          (pool-after expressions i) (mentions-after i)
