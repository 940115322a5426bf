-- The compacted module is accepted, a second pass keeps all of it, and changes nothing.
-- Assumes nothing.
use mathlib.Core.Path.{◌≡◌, refl, sym, ap, ap₂, subst, ◌∙◌}
use mathlib.Core.Bool.{Bool, true, false, cond}
use mathlib.Core.List.{List, [], ◌∷◌, ◌++◌, map}
use Prim.Native.Nat.{ℕ, zero, suc, ◌+◌, ◌*◌, ◌/◌, ◌%◌, ◌≤◌, ◌<◌, suc-le-suc, zero-le}
use native.Mathlib.Nat.{le_refl, le_trans, mul-div_cancel, mul-mod_left, mul-zero, mod-one, div-one, le_of_suc-le-suc, zero-lt-suc, add-suc, suc-add, zero-add, add-zero}
use native.Mathlib.Numerals.{add-one}
use native.Mathlib.Omega.{arith}
use lib.Dec.{T, eqb, leb, ltb, eqb→eq, leb→le, eqb_refl, le→leb, lt→ltb, ltb→lt, lit<}
use borrow.Author.Tests.{eqb-false, eqb-true, ne_eqb}
use lib.ListN.{length, get_or}
use Rattle.definitions.specs.Lists.{all, always, gather, total}
use Rattle.definitions.specs.Areas.{records_of, Areas, Arena, Elem, N, Words, all_words, area_number, at, constants, expressions, globals, length_of, limit, limits, mention_count, mention_width, mention_word, numbered, overrides, pool, size, types, width, widths, word, words}
use Rattle.definitions.specs.Slots.{body, type_body, expr_body, Slot, below, count, fill, free, layout, may, must, slots, start, tail, type_slots, unused}
use Rattle.definitions.specs.References.{has_run, named_from, references, run, span}
use Rattle.definitions.specs.Roots.{mention}
use Rattle.definitions.specs.Order.{behind, later, past_dep, one_past, sized_by, well_ordered, with_behind}
use Rattle.definitions.specs.Sweep.{has}
use Rattle.definitions.specs.Refusals.{every, held, held_at, inside as test, of_module, runs_before, shaped, shaped_at}
use Rattle.definitions.specs.Numbering.{is_kept, moved, new_handle, rank}
use Rattle.definitions.specs.Records.{adjusted, kept_areas, mention_after, mentions_up_to, runs_up_to, start_after}
use Rattle.definitions.proofs.ListLaws.{total-always, total-share, length-gather, gather-word, total-cong, total-scale, total-any}
use Rattle.definitions.proofs.Least.{◌∈◌, and_left, and_right, both, Within, within-each, map-within, Closed, here, there, append_left, append_right, reached, reached-within}
use Rattle.definitions.proofs.Accepted.{Sound, Accepted}
use Rattle.definitions.proofs.Kept.{OrderedOn, SlotHolds, EachSlot, all-within, sized_past, Inside, inside-lt}
use Rattle.definitions.proofs.Places.{new-kept, new-mono, rank-le, rank_mono, rank_below, no_gap}
use Rattle.definitions.proofs.Tandem.{past-mono}
use Rattle.definitions.proofs.Reading.{after, length-after, size-after, word_after, layout-after, length-layout, span-after, pool-types, pool-expressions, start-total, kind-expression, kind-type, within-slots, references-after, moved_inside, new-few, map-append}

held-slot : (s : Areas) (l : Slot) (w : ℕ) → SlotHolds (Inside s) l w → T (held s l w)
unfolding held
held-slot s unused w p = tt
held-slot s free w p = tt
held-slot s (below n) w p = tt
held-slot s (must a) w p = p
held-slot s (may a) w p = go (eqb w N) (eqb-false w N)
  where
    go : (b : Bool) → (b ≡ false → w ≡ N → ⊥) → T (cond b true (test s (at a w)))
    go true q = tt
    go false q = p (q refl)
held-slot s start w p = tt
held-slot s count w p = tt

held-slots : (s : Areas) (f : ℕ → ℕ) (k : ℕ) (ls : List Slot) → EachSlot (Inside s) f k ls → T (every (held s) f k ls)
unfolding every
held-slots s f k [] e = tt
held-slots s f k (l ∷ ls) e =
    both (held s l (f k)) (every (held s) f (suc k) ls) (held-slot s l (f k) e.0) (held-slots s f (suc k) ls e.1)

held-run : (s : Areas) (a : Arena) (ws : Words) → Within (map (at a) ws) (Inside s) → T (all (λ w. test s (at a w)) ws)
unfolding all
held-run s a [] w = tt
held-run s a (x ∷ ws) w =
    both (test s (at a x)) (all (λ w. test s (at a w)) ws) (w (at a x) (here (at a x) (map (at a) ws)))
    (held-run s a ws (λ y i. w y (there y (at a x) (map (at a) ws) i)))

-- check 6 asks that every reference lies inside
pub refs-held : (s : Areas) (a : Arena) (h : ℕ) → Within (references s (at a h)) (Inside s) → T (held_at s a h)
unfolding held_at references
refs-held s a h w =
    both (every (held s) (word s a h) 0 (layout s a h)) (all (λ w. test s (at a w)) (run s a h))
    (held-slots s (word s a h) 0 (layout s a h)
    (within-slots (Inside s) (word s a h) 0 (layout s a h) (λ y i. w y (append_left y (named_from (word s a h) 0 (layout s a h)) (map (at a) (run s a h)) i))))
    (held-run s a (run s a h) (λ y i. w y (append_right y (named_from (word s a h) 0 (layout s a h)) (map (at a) (run s a h)) i)))

module _ (s : Areas) (m : List Elem) (c : Sound s) (inside : Within m (Inside s)) (closed : Closed s (λ x. x ∈ m)) where
  -- what a kept record is at its new place, every record of the compacted module is
  pub every-record : (a : Arena) (P : ℕ → Type 0) → ((h : ℕ) → at a h ∈ m → h < size s a → P (rank (is_kept m a) h)) → (r : ℕ) → r < size (after s m) a → P r
  every-record a P f r l =
      let q = no_gap m a (size s a) r (subst (λ n. r < n) (size-after s m a) l) in
      subst P q.from-rank (f q.from q.from-kept q.from-lt)

  -- ---- check 4

  start-eq : (a : Arena) (h : ℕ) → h ≤ size s a → runs_before (after s m) a (rank (is_kept m a) h) ≡ start_after s m a h
  unfolding runs_before start_after rank total
  start-eq a zero l = refl
  start-eq a (suc h) l = go (has m (at a h)) (λ t. span-after s m a h t l) (start-eq a h (le_trans (omega arith) l))
    where
      go : (b : Bool) → (T b → span (after s m) a (rank (is_kept m a) h) ≡ span s a h) → runs_before (after s m) a (rank (is_kept m a) h) ≡ start_after s m a h
          → total always (span (after s m) a) (cond b (rank (is_kept m a) h + 1) (rank (is_kept m a) h)) ≡ cond b (start_after s m a h + span s a h) (start_after s m a h)
      go true e q = rw (add-one (rank (is_kept m a) h)) (ap₂ ◌+◌ q (e tt))
      go false e q = q

  no-spans : (a : Arena) → ((h : ℕ) → span s a h ≡ 0) → 0 ≡ start_after s m a (size s a)
  unfolding start_after
  no-spans a f =
      sym (total-cong (is_kept m a) (span s a) (λ _. 0) (size s a) (λ h l t. f h) ∙ total-scale (is_kept m a) 0 (size s a) ∙ mul-zero _)

  runs-length : (a : Arena) → length (runs_up_to s m a (size s a)) ≡ start_after s m a (size s a)
  unfolding runs_up_to
  runs-length a = length-gather (is_kept m a) (λ j. map (new_handle (is_kept m a)) (run s a j)) (size s a) ∙ start-total s m c a (size s a) (le_refl (size s a))

  pool-length : (a : Arena) → length (pool (after s m) a) ≡ start_after s m a (size s a)
  unfolding pool kept_areas span has_run
  pool-length types = runs-length types
  pool-length constants = no-spans constants (λ h. refl)
  pool-length overrides = no-spans overrides (λ h. refl)
  pool-length globals = no-spans globals (λ h. refl)
  pool-length expressions = runs-length expressions

  share : (a : Arena) (h : ℕ) → at a h ∈ m → h < size s a → start_after s m a h + span s a h ≤ start_after s m a (size s a)
  unfolding start_after
  share a h i l = total-share (is_kept m a) (span s a) h (size s a) i l

  shaped-after : (a : Arena) (h : ℕ) → at a h ∈ m → h < size s a → (l : Slot) (w : ℕ)
      → T (shaped s a h l w) → T (shaped (after s m) a (rank (is_kept m a) h) l (adjusted m (start_after s m a h) l w))
  unfolding shaped adjusted
  shaped-after a h i k unused w t = t
  shaped-after a h i k free w t = t
  shaped-after a h i k (below n) w t = t
  shaped-after a h i k (must b) w t = t
  shaped-after a h i k (may b) w t = t
  shaped-after a h i k start w t =
      rw (start-eq a h (le_trans (omega arith) k), span-after s m a h i k, pool-length a)
      (both (eqb (start_after s m a h) (start_after s m a h)) (leb (start_after s m a h + span s a h) (start_after s m a (size s a)))
      (eqb_refl (start_after s m a h)) (le→leb (start_after s m a h + span s a h) (start_after s m a (size s a)) (share a h i k)))
  shaped-after a h i k count w t = t

  every-after : (b : ℕ) (p q : Slot → ℕ → Bool) (f g : ℕ → ℕ) (k : ℕ) (ls : List Slot)
      → ((l : Slot) (w : ℕ) → T (p l w) → T (q l (adjusted m b l w)))
      → ((j : ℕ) → j < length ls → g (k + j) ≡ adjusted m b (get_or ls j unused) (f (k + j)))
      → T (every p f k ls) → T (every q g k ls)
  unfolding every
  every-after b p q f g k [] u e t = tt
  every-after b p q f g k (l ∷ ls) u e t =
      both (q l (g k)) (every q g (suc k) ls)
      (subst (λ w. T (q l w)) (sym (rw add-zero at (e 0 (zero-lt-suc (length ls))))) (u l (f k) (and_left (p l (f k)) (every p f (suc k) ls) t)))
      (every-after b p q f g (suc k) ls u
      (λ j n. subst (λ i. g i ≡ adjusted m b (get_or ls j unused) (f i)) (add-suc k j ∙ sym (suc-add k j)) (e (suc j) (suc-le-suc n)))
      (and_right (p l (f k)) (every p f (suc k) ls) t))

  -- a kept record's words, in the form that a walk over its slots asks
  pub words-after-0 : (a : Arena) (h : ℕ) → at a h ∈ m → h < size s a → (j : ℕ) → j < length (layout s a h)
      → word (after s m) a (rank (is_kept m a) h) (0 + j) ≡ adjusted m (start_after s m a h) (get_or (layout s a h) j unused) (word s a h (0 + j))
  words-after-0 a h i l j n = rw (zero-add j) (word_after s m a h j i l (subst (λ q. j < q) (length-layout s m a h) n))

  shapes-after : (a : Arena) (h : ℕ) → at a h ∈ m → h < size s a → T (shaped_at (after s m) a (rank (is_kept m a) h))
  unfolding shaped_at
  shapes-after a h i l =
      rw (layout-after s m a h i l)
      (every-after (start_after s m a h) (shaped s a h) (shaped (after s m) a (rank (is_kept m a) h)) (word s a h) (word (after s m) a (rank (is_kept m a) h)) 0 (layout s a h)
      (shaped-after a h i l) (words-after-0 a h i l) (c.shapes a h l))

  pool-used : (a : Arena) → pool (after s m) a ≡ runs_up_to s m a (size s a)
      → T (eqb (runs_before (after s m) a (size (after s m) a)) (length (pool (after s m) a)))
  unfolding runs_up_to
  pool-used a e =
      let q : length (pool (after s m) a) ≡ start_after s m a (size s a) =
      ap length e ∙ length-gather (is_kept m a) (λ j. map (new_handle (is_kept m a)) (run s a j)) (size s a) ∙ start-total s m c a (size s a) (le_refl (size s a)) in
      rw (q, size-after s m a, start-eq a (size s a) (le_refl (size s a))) (eqb_refl (start_after s m a (size s a)))

  -- ---- check 5

  kinds-after : (h : ℕ) → at expressions h ∈ m → h < size s expressions → T (of_module (after s m) expressions (rank (is_kept m expressions) h))
  unfolding of_module
  kinds-after h i l = rw (kind-expression s m h i l) (c.kinds h l)

  -- ---- check 6

  refs-inside : (a : Arena) (h : ℕ) → at a h ∈ m → Within (references (after s m) (at a (rank (is_kept m a) h))) (Inside (after s m))
  refs-inside a h i =
      rw (references-after s m c inside closed a h i)
      (map-within (Inside (after s m)) (moved m) (references s (at a h))
      (within-each _ (references s (at a h)) (λ y j. moved_inside s m c inside closed y (closed (at a h) y i j))))

  holds_after : (a : Arena) (h : ℕ) → at a h ∈ m → h < size s a → T (held_at (after s m) a (rank (is_kept m a) h))
  holds_after a h i l = refs-held (after s m) a (rank (is_kept m a) h) (refs-inside a h i)

  -- ---- check 7

  pub moved-kept : (a : Arena) (h : ℕ) → at a h ∈ m → moved m (at a h) ≡ at a (rank (is_kept m a) h)
  unfolding moved
  moved-kept a h i = ap (at a) (new-kept m a h i)

  behind-after : (x : Elem) → x ∈ m → behind (after s m) (moved m x) ≡ map (moved m) (behind s x)
  unfolding behind moved
  behind-after (at types h) i = refl
  behind-after (at constants h) i = rw (new-kept m constants h i) (references-after s m c inside closed constants h i)
  behind-after (at overrides h) i = rw (new-kept m overrides h i) (references-after s m c inside closed overrides h i)
  behind-after (at globals h) i = rw (new-kept m globals h i) (references-after s m c inside closed globals h i)
  behind-after (at expressions h) i = refl

  touched-after : (xs : List Elem) → Within xs (λ x. x ∈ m) → with_behind (after s m) (map (moved m) xs) ≡ map (moved m) (with_behind s xs)
  unfolding with_behind
  touched-after [] w = refl
  touched-after (x ∷ xs) w =
      ap₂ (λ p q. moved m x ∷ (p ++ q)) (behind-after x (w x (here x xs))) (touched-after xs (λ y i. w y (there y x xs i)))
      ∙ ap (λ q. moved m x ∷ q) (sym (map-append (moved m) (behind s x) (with_behind s xs)))

  reached-after : (a : Arena) (h : ℕ) → at a h ∈ m → reached (after s m) (at a (rank (is_kept m a) h)) ≡ map (moved m) (reached s (at a h))
  reached-after a h i =
      ap (with_behind (after s m)) (references-after s m c inside closed a h i) ∙ touched-after (references s (at a h)) (λ y j. closed (at a h) y i j)

  past_bound : (t : Areas) (n b : ℕ) → ((u : ℕ) → u ≤ n → sized_by t u ≤ b) → past_dep t n ≤ b
  unfolding past_dep
  past_bound t zero b f = f 0 (le_refl 0)
  past_bound t (suc n) b f =
      let p : past_dep t n ≤ b = past_bound t n b (λ u l. f u (le_trans l (omega arith))) in
      let q : sized_by t (suc n) ≤ b = f (suc n) (le_refl (suc n)) in
      omega arith

  -- what a kept record names is kept
  pub kept-slots : (a : Arena) (h : ℕ) → at a h ∈ m → EachSlot (λ x. x ∈ m) (word s a h) 0 (layout s a h)
  unfolding references
  kept-slots a h i =
      within-slots (λ x. x ∈ m) (word s a h) 0 (layout s a h)
      (λ y j. closed (at a h) y i (append_left y (named_from (word s a h) 0 (layout s a h)) (map (at a) (run s a h)) j))

  sized-layout : (u : ℕ) → word s types u 0 ≡ 2 → layout s types u ≡ below 4 ∷ below 4 ∷ must types ∷ must overrides ∷ tail
  unfolding layout slots type_slots fill body type_body expr_body
  sized-layout u e =
      subst (λ k. type_body k ++ tail ≡ below 4 ∷ below 4 ∷ must types ∷ must overrides ∷ tail) (sym e) refl

  past-init : (b w : ℕ) → ((w ≡ N → ⊥) → at expressions w ∈ m) → one_past (adjusted m b (may expressions) w) ≤ rank (is_kept m expressions) (one_past w)
  unfolding one_past adjusted
  past-init b w p = go (eqb w N) refl
    where
      go : (d : Bool) → eqb w N ≡ d → one_past (cond d N (new_handle (is_kept m expressions) w)) ≤ rank (is_kept m expressions) (cond d 0 (suc w))
      go true e = zero-le
      go false e =
          let i : at expressions w ∈ m = p (eqb-false w N e) in
          rw (ne_eqb (new_handle (is_kept m expressions) w) N (new-few s m c inside closed expressions w i), new-kept m expressions w i)
          (rank_below m expressions w (suc w) i (le_refl (suc w)))

  sized-after : (u : ℕ) → at types u ∈ m → u < size s types → sized_by (after s m) (rank (is_kept m types) u) ≤ rank (is_kept m expressions) (sized_by s u)
  unfolding sized_by adjusted width layout slots body type_body expr_body
  sized-after u i l = rw (kind-type s m u i l) (go (eqb (word s types u 0) 2) (eqb-true (word s types u 0) 2))
    where
      o : ℕ
      o = word s types u 3

      go : (b : Bool) → (b ≡ true → word s types u 0 ≡ 2)
          → cond b (one_past (word (after s m) overrides (word (after s m) types (rank (is_kept m types) u) 3) 2)) 0
          ≤ rank (is_kept m expressions) (cond b (one_past (word s overrides (word s types u 3) 2)) 0)
      go true e =
          let q = sized-layout u (e refl) in
          let io : at overrides o ∈ m = (subst (λ ls. EachSlot (λ x. x ∈ m) (word s types u) 0 ls) q (kept-slots types u i)).1.1.1.0 in
          let w3 : word (after s m) types (rank (is_kept m types) u) 3 ≡ rank (is_kept m overrides) o =
          word_after s m types u 3 i l (lit< tt) ∙ ap (λ ls. adjusted m (start_after s m types u) (get_or ls 3 unused) o) q ∙ new-kept m overrides o io in
          let lo : o < size s overrides = inside-lt s overrides o (inside (at overrides o) io) in
          let w2 : word (after s m) overrides (rank (is_kept m overrides) o) 2 ≡ adjusted m (start_after s m overrides o) (may expressions) (word s overrides o 2) =
          word_after s m overrides o 2 io lo (lit< tt) in
          rw (w3, w2) (past-init (start_after s m overrides o) (word s overrides o 2) (kept-slots overrides o io).1.1.0)
      go false e = zero-le

  past_after : (u : ℕ) → at types u ∈ m → past_dep (after s m) (rank (is_kept m types) u) ≤ rank (is_kept m expressions) (past_dep s u)
  past_after u i =
      past_bound (after s m) (rank (is_kept m types) u) (rank (is_kept m expressions) (past_dep s u))
      (λ r l.
      let q = no_gap m types (suc u) r (le_trans (suc-le-suc l) (rank_below m types u (suc u) i (le_refl (suc u)))) in
      let v : ℕ = q.from in
      let k : v < size s types = inside-lt s types v (inside (at types v) q.from-kept) in
      subst (λ x. sized_by (after s m) x ≤ rank (is_kept m expressions) (past_dep s u)) q.from-rank
      (le_trans (sized-after v q.from-kept k)
      (rank_mono m expressions (sized_by s v) (past_dep s u) (le_trans (sized_past s v) (past-mono s u v (le_of_suc-le-suc q.from-lt))))))

  later-after : (x y : Elem) → x ∈ m → y ∈ m → T (later s x y) → T (later (after s m) (moved m x) (moved m y))
  unfolding later moved
  later-after (at types t) (at types u) i j q = lt→ltb (new_handle (is_kept m types) u) (new_handle (is_kept m types) t) (new-mono m types u t j i (ltb→lt u t q))
  later-after (at types t) (at constants u) i j q = tt
  later-after (at types t) (at overrides u) i j q = tt
  later-after (at types t) (at globals u) i j q = tt
  later-after (at types t) (at expressions u) i j q = tt
  later-after (at constants t) y i j q = tt
  later-after (at overrides t) y i j q = tt
  later-after (at globals t) y i j q = tt
  later-after (at expressions e) (at types u) i j q =
      rw (new-kept m types u j, new-kept m expressions e i)
      (le→leb _ _ (le_trans (past_after u j) (rank_mono m expressions (past_dep s u) e (leb→le (past_dep s u) e q))))
  later-after (at expressions e) (at constants u) i j q = tt
  later-after (at expressions e) (at overrides u) i j q = tt
  later-after (at expressions e) (at globals u) i j q = tt
  later-after (at expressions e) (at expressions u) i j q = lt→ltb (new_handle (is_kept m expressions) u) (new_handle (is_kept m expressions) e) (new-mono m expressions u e j i (ltb→lt u e q))

  within_all : (f : Elem → Bool) (l : List Elem) → Within l (λ y. T (f y)) → T (all f l)
  unfolding all
  within_all f [] w = tt
  within_all f (x ∷ l) w = both (f x) (all f l) (w x (here x l)) (within_all f l (λ y i. w y (there y x l i)))

  order-after : (a : Arena) (h : ℕ) → at a h ∈ m → T (well_ordered s a h) → T (well_ordered (after s m) a (rank (is_kept m a) h))
  unfolding well_ordered
  order-after a h i t =
      rw (reached-after a h i)
      (within_all (later (after s m) (at a (rank (is_kept m a) h))) (map (moved m) (reached s (at a h)))
      (map-within (λ y. T (later (after s m) (at a (rank (is_kept m a) h)) y)) (moved m) (reached s (at a h))
      (within-each _ (reached s (at a h))
      (λ y j.
      subst (λ x. T (later (after s m) x (moved m y))) (moved-kept a h i)
      (later-after (at a h) y i (reached-within s (λ x. x ∈ m) closed (at a h) y i j)
      (all-within s (later s (at a h)) (reached s (at a h)) t y j))))))

  -- ---- checks 1 and 2, and the mentions

  mentions-total : (n : ℕ) → total always (λ i. length (mention_after s m i)) n ≡ n * mention_width
  unfolding mention_after
  mentions-total n = total-always mention_width n

  pub mentions-length : length (after s m).mentions ≡ mention_count s * mention_width
  unfolding kept_areas mentions_up_to
  mentions-length = length-gather always (mention_after s m) (mention_count s) ∙ mentions-total (mention_count s)

  pub mention_count-after : mention_count (after s m) ≡ mention_count s
  unfolding mention_count
  mention_count-after = ap (λ n. n / mention_width) mentions-length ∙ mul-div_cancel (mention_count s) (lit< tt)

  pub mention_word-after : (h k : ℕ) → h < mention_count s → k < mention_width → mention_word (after s m) h k ≡ get_or (mention_after s m h) k 0
  unfolding mention_word kept_areas mentions_up_to
  mention_word-after h k l b =
      ap (λ j. get_or (gather always (mention_after s m) (mention_count s)) (j + k) 0) (sym (mentions-total h))
      ∙ gather-word always (mention_after s m) h (mention_count s) k 0 tt l (two b)
    where
      two : k < mention_width → k < length (mention_after s m h)
      two b = unfold mention_after in b

  pub mention-after : (h : ℕ) → h < mention_count s → mention (after s m) h ≡ moved m (mention s h)
  unfolding mention moved mention_after
  mention-after h l =
      ap₂ (λ p q. at (numbered p) q) (mention_word-after h 0 l (lit< tt)) (mention_word-after h 1 l (lit< tt))

  arena-whole : (a : Arena) → T (eqb (length (words (after s m) a) % width a) 0)
  arena-whole a = rw (length-after s m a, mul-mod_left (rank (is_kept m a) (size s a)) (width a)) tt

  whole-after : (i : ℕ) → i < 8 → T (eqb (length_of (after s m) i % get_or widths i 1) 0)
  unfolding length_of all_words widths words width
  whole-after zero l = arena-whole types
  whole-after (suc zero) l = arena-whole constants
  whole-after (suc (suc zero)) l = arena-whole overrides
  whole-after (suc (suc (suc zero))) l = arena-whole globals
  whole-after (suc (suc (suc (suc zero)))) l = arena-whole expressions
  whole-after (suc (suc (suc (suc (suc zero))))) l = rw mod-one tt
  whole-after (suc (suc (suc (suc (suc (suc zero)))))) l = rw mod-one tt
  whole-after (suc (suc (suc (suc (suc (suc (suc zero))))))) l = rw (mentions-length, mul-mod_left (mention_count s) mention_width) tt
  whole-after (suc (suc (suc (suc (suc (suc (suc (suc i)))))))) l = absurd (omega arith)

  size-le : (a : Arena) → size (after s m) a ≤ size s a
  size-le a = rw (size-after s m a) (rank-le (is_kept m a) (size s a))

  pool-le : (a : Arena) → pool (after s m) a ≡ runs_up_to s m a (size s a) → T (eqb (runs_before s a (size s a)) (length (pool s a)))
      → length (pool (after s m) a) ≤ length (pool s a)
  unfolding runs_up_to start_after runs_before
  pool-le a e t =
      let q : length (pool (after s m) a) ≡ start_after s m a (size s a) =
      ap length e ∙ length-gather (is_kept m a) (λ j. map (new_handle (is_kept m a)) (run s a j)) (size s a) ∙ start-total s m c a (size s a) (le_refl (size s a)) in
      rw (q, ← eqb→eq (runs_before s a (size s a)) (length (pool s a)) t) (total-any (is_kept m a) (span s a) (size s a))

  arena-few : (a : Arena) → T (leb (size s a) (limit a)) → T (leb (size (after s m) a) (limit a))
  arena-few a t = le→leb (size (after s m) a) (limit a) (le_trans (size-le a) (leb→le (size s a) (limit a) t))

  few-after : (i : ℕ) → i < 8 → T (leb (records_of (after s m) i) (get_or limits i 0))
  unfolding records_of length_of all_words widths words area_number size pool kept_areas mention_count
  few-after zero l = arena-few types (c.few 0 (lit< tt))
  few-after (suc zero) l = arena-few constants (c.few 1 (lit< tt))
  few-after (suc (suc zero)) l = arena-few overrides (c.few 2 (lit< tt))
  few-after (suc (suc (suc zero))) l = arena-few globals (c.few 3 (lit< tt))
  few-after (suc (suc (suc (suc zero)))) l = arena-few expressions (c.few 4 (lit< tt))
  few-after (suc (suc (suc (suc (suc zero))))) l =
      rw div-one (le→leb _ _ (le_trans (pool-le types refl c.members-used) (leb→le _ _ (rw div-one at (c.few 5 (lit< tt))))))
  few-after (suc (suc (suc (suc (suc (suc zero)))))) l =
      rw div-one (le→leb _ _ (le_trans (pool-le expressions refl c.components-used) (leb→le _ _ (rw div-one at (c.few 6 (lit< tt))))))
  few-after (suc (suc (suc (suc (suc (suc (suc zero))))))) l = subst (λ n. T (leb n (get_or limits 7 0))) (sym mention_count-after) (c.few 7 (lit< tt))
  few-after (suc (suc (suc (suc (suc (suc (suc (suc i)))))))) l = absurd (omega arith)

  -- ---- the compacted module is accepted

  pub accepted-after : OrderedOn s m → ((h : ℕ) → h < mention_count s → mention s h ∈ m) → Accepted (after s m)
  accepted-after o mentioned =
      record {
        sound = record {
          whole = whole-after;
          few = few-after;
          shapes = λ a. every-record a (λ r. T (shaped_at (after s m) a r)) (shapes-after a);
          members-used = pool-used types (pool-types s m);
          components-used = pool-used expressions (pool-expressions s m);
          mention-areas = λ h l.
              let k : h < mention_count s = subst (λ n. h < n) mention_count-after l in
              rw (mention_word-after h 0 k (lit< tt)) (mention-area h k);
          kinds = every-record expressions (λ r. T (of_module (after s m) expressions r)) kinds-after;
          holds = λ a. every-record a (λ r. T (held_at (after s m) a r)) (holds_after a);
          mentions = λ h l.
              let k : h < mention_count s = subst (λ n. h < n) mention_count-after l in
              rw (mention-after h k) (moved_inside s m c inside closed (mention s h) (mentioned h k));
        };
        type-order = every-record types (λ r. T (well_ordered (after s m) types r)) (λ h i l. order-after types h i (o types h tt i));
        expression-order =
            every-record expressions (λ r. T (well_ordered (after s m) expressions r)) (λ h i l. order-after expressions h i (o expressions h tt i));
      }
    where
      mention-area : (h : ℕ) → h < mention_count s → T (ltb (get_or (mention_after s m h) 0 0) 5)
      mention-area h l = unfold mention_after in (c.mention-areas h l)
