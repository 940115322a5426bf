-- What the compacted module's records, runs and mentions read as.
-- Assumes nothing.
use mathlib.Core.Path.{◌≡◌, refl, sym, ap, ap₂, subst, ◌∙◌}
use mathlib.Core.Bool.{Bool, true, false, cond}
use mathlib.Core.List.{List, [], ◌∷◌, ◌++◌, map}
use Prim.Native.Nat.{ℕ, zero, suc, ◌+◌, ◌*◌, ◌/◌, ◌≤◌, ◌<◌, suc-le-suc}
use native.Mathlib.Nat.{le_trans, not-suc-le-zero, le_of_suc-le-suc, mul-div_cancel, zero-lt-suc, add-suc, suc-add, zero-add, add-zero}
use native.Mathlib.Omega.{arith}
use lib.Dec.{T, eqb, leb, eqb→eq, leb→le, lit<}
use lib.ListN.{length, get_or, take, drop, length-append, length-take, length-drop, length-map}
use borrow.Author.Tests.{ne_eqb, eqb-true, eqb-false}
use Rattle.definitions.specs.Lists.{gather, total}
use Rattle.definitions.specs.Areas.{Areas, Arena, Elem, N, Words, at, constants, expressions, globals, overrides, pool, size, types, width, word, words}
use Rattle.definitions.specs.Slots.{body, type_body, expr_body, Slot, below, carried, count, expr_slots, fill, form_of, free, layout, may, must, slots, start, tail, type_slots, unused}
use Rattle.definitions.specs.References.{has_run, named_by, named_from, references, run, span}
use Rattle.definitions.specs.Refusals.{every, runs_before, shaped, shaped_at}
use Rattle.definitions.specs.Numbering.{is_kept, moved, new_handle, rank}
use Rattle.definitions.specs.Records.{adjusted, adjusted_from, kept_areas, record_after, records_up_to, runs_up_to, start_after}
use Rattle.definitions.proofs.ListLaws.{total-cong, total-scale, length-gather, gather-part, gather-word}
use Rattle.definitions.proofs.Least.{◌∈◌, and_left, and_right, Within, Closed, here, append_left, append_right}
use Rattle.definitions.proofs.Accepted.{Sound, size_few}
use Rattle.definitions.proofs.Kept.{SlotHolds, EachSlot, Inside, inside-lt, lt-inside}
use Rattle.definitions.proofs.Places.{new-kept, rank-le, rank_below}

pub map-append : {A B : Type 0} (f : A → B) (l r : List A) → map f (l ++ r) ≡ map f l ++ map f r
map-append f [] r = refl
map-append f (x ∷ l) r = ap (λ q. f x ∷ q) (map-append f l r)

-- what the slots name has P
pub within-named : (P : Elem → Type 0) (l : Slot) (w : ℕ) → Within (named_by l w) P → SlotHolds P l w
unfolding named_by
within-named P unused w p = tt
within-named P free w p = tt
within-named P (below n) w p = tt
within-named P (must a) w p = p (at a w) (here (at a w) [])
within-named P (may a) w p = λ n. p (at a w) (rw (ne_eqb w N n) (here (at a w) []))
within-named P start w p = tt
within-named P count w p = tt

pub within-slots : (P : Elem → Type 0) (f : ℕ → ℕ) (k : ℕ) (ls : List Slot) → Within (named_from f k ls) P → EachSlot P f k ls
unfolding named_from
within-slots P f k [] p = tt
within-slots P f k (l ∷ ls) p = (
  within-named P l (f k) (λ y i. p y (append_left y (named_by l (f k)) (named_from f (suc k) ls) i)),
  within-slots P f (suc k) ls (λ y i. p y (append_right y (named_by l (f k)) (named_from f (suc k) ls) i)),
)

pub refs-eq : (s : Areas) (a : Arena) (h : ℕ) → references s (at a h) ≡ named_from (word s a h) 0 (layout s a h) ++ map (at a) (run s a h)
unfolding references
refs-eq s a h = refl

map-moved : (m : List Elem) (a : Arena) (ws : Words) → map (at a) (map (new_handle (is_kept m a)) ws) ≡ map (moved m) (map (at a) ws)
unfolding moved
map-moved m a [] = refl
map-moved m a (w ∷ ws) = ap (λ q. at a (new_handle (is_kept m a) w) ∷ q) (map-moved m a ws)

pub run-eq : (s : Areas) (a : Arena) (h : ℕ) → run s a h ≡ take (span s a h) (drop (word s a h 2) (pool s a))
unfolding run
run-eq s a h = refl

pub no_span : (s : Areas) (a : Arena) (h : ℕ) → has_run s a h ≡ false → span s a h ≡ 0
unfolding span
no_span s a h e = rw e

-- each slot passes
pub every-at : (p : Slot → ℕ → Bool) (f : ℕ → ℕ) (k : ℕ) (ls : List Slot) → T (every p f k ls) → (j : ℕ) → j < length ls → T (p (get_or ls j unused) (f (k + j)))
unfolding every
every-at p f k [] t j l = absurd (not-suc-le-zero l)
every-at p f k (x ∷ ls) t zero l = rw add-zero (and_left (p x (f k)) (every p f (suc k) ls) t)
every-at p f k (x ∷ ls) t (suc j) l =
    subst (λ i. T (p (get_or ls j unused) (f i))) (suc-add k j ∙ sym (add-suc k j))
    (every-at p f (suc k) ls (and_right (p x (f k)) (every p f (suc k) ls) t) j (le_of_suc-le-suc l))

pub shaped-slot : (s : Areas) (a : Arena) (h : ℕ) → T (shaped_at s a h) → (j : ℕ) → j < length (layout s a h)
    → T (shaped s a h (get_or (layout s a h) j unused) (word s a h j))
unfolding shaped_at
shaped-slot s a h t j l =
    subst (λ i. T (shaped s a h (get_or (layout s a h) j unused) (word s a h i))) (zero-add j) (every-at (shaped s a h) (word s a h) 0 (layout s a h) t j l)

start_fits : (s : Areas) (a : Arena) (h : ℕ) → T (shaped_at s a h) → get_or (layout s a h) 2 unused ≡ start → 2 < length (layout s a h)
    → word s a h 2 + span s a h ≤ length (pool s a)
unfolding shaped
start_fits s a h t e l =
    leb→le (word s a h 2 + span s a h) (length (pool s a))
    (and_right (eqb (word s a h 2) (runs_before s a h)) (leb (word s a h 2 + span s a h) (length (pool s a)))
    (subst (λ x. T (shaped s a h x (word s a h 2))) e (shaped-slot s a h t 2 l)))

start_is : (s : Areas) (a : Arena) (h : ℕ) → T (shaped_at s a h) → get_or (layout s a h) 2 unused ≡ start → 2 < length (layout s a h)
    → word s a h 2 ≡ runs_before s a h
unfolding shaped
start_is s a h t e l =
    eqb→eq (word s a h 2) (runs_before s a h)
    (and_left (eqb (word s a h 2) (runs_before s a h)) (leb (word s a h 2 + span s a h) (length (pool s a)))
    (subst (λ x. T (shaped s a h x (word s a h 2))) e (shaped-slot s a h t 2 l)))

length-fill : (n : ℕ) (l : List Slot) → length (fill n l) ≡ n
unfolding fill
length-fill zero l = refl
length-fill (suc n) [] = ap suc (length-fill n [])
length-fill (suc n) (x ∷ l) = ap suc (length-fill n l)

-- as many slots as words
pub length-slots : (a : Arena) (f : ℕ → ℕ) → length (slots a f) ≡ width a
unfolding slots width body type_body expr_body
length-slots types f = simp (length-append, length-fill)
length-slots constants f = refl
length-slots overrides f = refl
length-slots globals f = refl
length-slots expressions f = simp (length-append, length-fill)

-- a body and the tail are the record
pub body-length : (a : Arena) (f : ℕ → ℕ) → length (body a f) + length tail ≡ width a
unfolding slots
body-length a f = sym (length-append (body a f) tail) ∙ length-slots a f

-- words that are the same from word k and from word i on
pub carried_same : (f g : ℕ → ℕ) (k i : ℕ) (ls : List Slot) → ((j : ℕ) → j < length ls → f (k + j) ≡ g (i + j)) → carried f k ls ≡ carried g i ls
unfolding carried
carried_same f g k i [] e = refl
carried_same f g k i (l ∷ ls) e =
    let next : (n j : ℕ) → suc n + j ≡ n + suc j = λ n j. omega arith in
    ap₂ (λ w r. w ∷ r) (ap f (sym (add-zero k)) ∙ e 0 (zero-lt-suc (length ls)) ∙ ap g (add-zero i))
    (carried_same f g (suc k) (suc i) ls (λ j l. ap f (next k j) ∙ e (suc j) (suc-le-suc l) ∙ ap g (sym (next i j))))

pub width-pos : (a : Arena) → 0 < width a
unfolding width
width-pos types = lit< tt
width-pos constants = lit< tt
width-pos overrides = lit< tt
width-pos globals = lit< tt
width-pos expressions = lit< tt

length-adjusted_in : (m : List Elem) (b : ℕ) (f : ℕ → ℕ) (k : ℕ) (ls : List Slot) → length (adjusted_from m b f k ls) ≡ length ls
unfolding adjusted_from
length-adjusted_in m b f k [] = refl
length-adjusted_in m b f k (l ∷ ls) = ap suc (length-adjusted_in m b f (suc k) ls)

get_or-adjusted_in : (m : List Elem) (b : ℕ) (f : ℕ → ℕ) (j k : ℕ) (ls : List Slot) → k < length ls
    → get_or (adjusted_from m b f j ls) k 0 ≡ adjusted m b (get_or ls k unused) (f (j + k))
unfolding adjusted_from
get_or-adjusted_in m b f j k [] h = absurd (not-suc-le-zero h)
get_or-adjusted_in m b f j zero (l ∷ ls) h = rw add-zero
get_or-adjusted_in m b f j (suc k) (l ∷ ls) h =
    get_or-adjusted_in m b f (suc j) k ls (le_of_suc-le-suc h) ∙ ap (λ i. adjusted m b (get_or ls k unused) (f i)) (suc-add j k ∙ sym (add-suc j k))

module _ (s : Areas) (m : List Elem) where
  pub length-record : (a : Arena) (h : ℕ) → length (record_after s m a h) ≡ width a
  unfolding record_after layout
  length-record a h = length-adjusted_in m (start_after s m a h) (word s a h) 0 (slots a (word s a h)) ∙ length-slots a (word s a h)

  pub length-layout : (a : Arena) (h : ℕ) → length (layout s a h) ≡ width a
  unfolding layout
  length-layout a h = length-slots a (word s a h)

  -- the compacted module
  abbrev pub after : Areas
  after = kept_areas s m

  pub words-after : (a : Arena) → words after a ≡ records_up_to s m a (size s a)
  unfolding kept_areas words
  words-after types = refl
  words-after constants = refl
  words-after overrides = refl
  words-after globals = refl
  words-after expressions = refl

  pub pool-types : pool after types ≡ runs_up_to s m types (size s types)
  unfolding pool kept_areas
  pool-types = refl

  pub pool-expressions : pool after expressions ≡ runs_up_to s m expressions (size s expressions)
  unfolding pool kept_areas
  pool-expressions = refl

  pub length-total : (a : Arena) (n : ℕ) → total (is_kept m a) (λ i. length (record_after s m a i)) n ≡ rank (is_kept m a) n * width a
  unfolding rank
  length-total a n =
      total-cong (is_kept m a) (λ i. length (record_after s m a i)) (λ _. width a) n (λ h l t. length-record a h) ∙ total-scale (is_kept m a) (width a) n

  pub length-after : (a : Arena) → length (words after a) ≡ rank (is_kept m a) (size s a) * width a
  unfolding records_up_to
  length-after a =
      ap length (words-after a) ∙ length-gather (is_kept m a) (record_after s m a) (size s a) ∙ length-total a (size s a)

  pub size-after : (a : Arena) → size after a ≡ rank (is_kept m a) (size s a)
  unfolding size
  size-after a = ap (λ n. n / width a) (length-after a) ∙ mul-div_cancel (rank (is_kept m a) (size s a)) (width-pos a)

  pub word_after : (a : Arena) (h k : ℕ) → at a h ∈ m → h < size s a → k < width a
      → word after a (rank (is_kept m a) h) k ≡ adjusted m (start_after s m a h) (get_or (layout s a h) k unused) (word s a h k)
  unfolding word records_up_to record_after
  word_after a h k i l b =
      ap (λ ws. get_or ws (rank (is_kept m a) h * width a + k) 0) (words-after a)
      ∙ ap (λ j. get_or (gather (is_kept m a) (record_after s m a) (size s a)) (j + k) 0) (sym (length-total a h))
      ∙ gather-word (is_kept m a) (record_after s m a) h (size s a) k 0 i l (subst (λ j. k < j) (sym (length-record a h)) b)
      ∙ get_or-adjusted_in m (start_after s m a h) (word s a h) 0 k (layout s a h) (subst (λ j. k < j) (sym (length-layout a h)) b)
      ∙ ap (λ j. adjusted m (start_after s m a h) (get_or (layout s a h) k unused) (word s a h j)) (zero-add k)

  -- ---- the layout stays

  module _ (a : Arena) (h : ℕ) (i : at a h ∈ m) (l : h < size s a) where
    -- a word whose slot is no handle and no start stays
    pub word-stays : (k : ℕ) → k < width a → (x : Slot) → get_or (layout s a h) k unused ≡ x
        → adjusted m (start_after s m a h) x (word s a h k) ≡ word s a h k → word after a (rank (is_kept m a) h) k ≡ word s a h k
    word-stays k b x e q =
        word_after a h k i l b ∙ ap (λ y. adjusted m (start_after s m a h) y (word s a h k)) e ∙ q

  pub kind-type : (h : ℕ) → at types h ∈ m → h < size s types → word after types (rank (is_kept m types) h) 0 ≡ word s types h 0
  unfolding width layout slots adjusted body type_body expr_body
  kind-type h i l = word-stays types h i l 0 (lit< tt) (below 4) refl refl

  pub kind-expression : (h : ℕ) → at expressions h ∈ m → h < size s expressions → word after expressions (rank (is_kept m expressions) h) 0 ≡ word s expressions h 0
  unfolding width layout slots adjusted body type_body expr_body
  kind-expression h i l = word-stays expressions h i l 0 (lit< tt) (below 34) refl refl

  level-slot : (x k : ℕ) → k ≡ 15 → get_or (expr_body k x ++ tail) 6 unused ≡ below 5
  unfolding expr_body expr_slots fill
  level-slot x k e = subst (λ j. get_or (expr_body j x ++ tail) 6 unused ≡ below 5) (sym e) refl

  query-slot : (x k : ℕ) → k ≡ 17 → get_or (expr_body k x ++ tail) 2 unused ≡ below 4
  unfolding expr_body expr_slots fill
  query-slot x k e = subst (λ j. get_or (expr_body j x ++ tail) 2 unused ≡ below 4) (sym e) refl

  form-stays : (h : ℕ) → at expressions h ∈ m → h < size s expressions → form_of (word after expressions (rank (is_kept m expressions) h)) ≡ form_of (word s expressions h)
  unfolding form_of width layout slots adjusted body type_body expr_body
  form-stays h i l = rw (kind-expression h i l) (go (eqb (word s expressions h 0) 15) (eqb-true (word s expressions h 0) 15) (eqb (word s expressions h 0) 17) (eqb-true (word s expressions h 0) 17))
    where
      f : ℕ → ℕ
      f = word after expressions (rank (is_kept m expressions) h)

      go : (b : Bool) → (b ≡ true → word s expressions h 0 ≡ 15) → (c : Bool) → (c ≡ true → word s expressions h 0 ≡ 17)
          → cond b (f 6) (cond c (f 2) 0) ≡ cond b (word s expressions h 6) (cond c (word s expressions h 2) 0)
      go true e c q = word-stays expressions h i l 6 (lit< tt) (below 5) (level-slot _ _ (e refl)) refl
      go false e true q = word-stays expressions h i l 2 (lit< tt) (below 4) (query-slot _ _ (q refl)) refl
      go false e false q = refl

  pub layout-after : (a : Arena) (h : ℕ) → at a h ∈ m → h < size s a → layout after a (rank (is_kept m a) h) ≡ layout s a h
  unfolding layout slots body type_body expr_body
  layout-after types h i l = rw (kind-type h i l)
  layout-after constants h i l = refl
  layout-after overrides h i l = refl
  layout-after globals h i l = refl
  layout-after expressions h i l = rw (kind-expression h i l, form-stays h i l)

  -- ---- the runs

  -- only types and expressions have runs
  run-type : (h : ℕ) → T (has_run s types h) → word s types h 0 ≡ 3
  unfolding has_run
  run-type h t = eqb→eq _ _ t

  run-expression : (h : ℕ) → T (has_run s expressions h) → word s expressions h 0 ≡ 8
  unfolding has_run
  run-expression h t = eqb→eq _ _ t

  type-run-slots : (k : ℕ) → k ≡ 3 → type_body k ++ tail ≡ below 4 ∷ below 4 ∷ start ∷ count ∷ tail
  unfolding type_body type_slots fill
  type-run-slots k e = subst (λ j. type_body j ++ tail ≡ below 4 ∷ below 4 ∷ start ∷ count ∷ tail) (sym e) refl

  expr-run-slots : (x k : ℕ) → k ≡ 8 → expr_body k x ++ tail ≡ below 34 ∷ must types ∷ start ∷ count ∷ unused ∷ unused ∷ unused ∷ unused ∷ unused ∷ unused ∷ tail
  unfolding expr_body expr_slots fill
  expr-run-slots x k e = subst (λ j. expr_body j x ++ tail ≡ below 34 ∷ must types ∷ start ∷ count ∷ unused ∷ unused ∷ unused ∷ unused ∷ unused ∷ unused ∷ tail) (sym e) refl

  pub start-slot : (a : Arena) (h : ℕ) → T (has_run s a h) → get_or (layout s a h) 2 unused ≡ start
  unfolding has_run layout slots body type_body expr_body
  start-slot types h t = ap (λ ls. get_or ls 2 unused) (type-run-slots _ (run-type h t))
  start-slot constants h t = absurd t
  start-slot overrides h t = absurd t
  start-slot globals h t = absurd t
  start-slot expressions h t = ap (λ ls. get_or ls 2 unused) (expr-run-slots _ _ (run-expression h t))

  pub count-slot : (a : Arena) (h : ℕ) → T (has_run s a h) → get_or (layout s a h) 3 unused ≡ count
  unfolding has_run layout slots body type_body expr_body
  count-slot types h t = ap (λ ls. get_or ls 3 unused) (type-run-slots _ (run-type h t))
  count-slot constants h t = absurd t
  count-slot overrides h t = absurd t
  count-slot globals h t = absurd t
  count-slot expressions h t = ap (λ ls. get_or ls 3 unused) (expr-run-slots _ _ (run-expression h t))

  pub run-wide : (a : Arena) (h : ℕ) → T (has_run s a h) → 3 < width a
  unfolding has_run width
  run-wide types h t = lit< tt
  run-wide constants h t = absurd t
  run-wide overrides h t = absurd t
  run-wide globals h t = absurd t
  run-wide expressions h t = lit< tt

  pub has_run-after : (a : Arena) (h : ℕ) → at a h ∈ m → h < size s a → has_run after a (rank (is_kept m a) h) ≡ has_run s a h
  unfolding has_run
  has_run-after types h i l = rw (kind-type h i l)
  has_run-after constants h i l = refl
  has_run-after overrides h i l = refl
  has_run-after globals h i l = refl
  has_run-after expressions h i l = rw (kind-expression h i l)

  pub span-after : (a : Arena) (h : ℕ) → at a h ∈ m → h < size s a → span after a (rank (is_kept m a) h) ≡ span s a h
  unfolding span adjusted
  span-after a h i l = rw (has_run-after a h i l) (go (has_run s a h) (λ t. word-stays a h i l 3 (run-wide a h t) count (count-slot a h t) refl))
    where
      go : (b : Bool) → (T b → word after a (rank (is_kept m a) h) 3 ≡ word s a h 3) → cond b (word after a (rank (is_kept m a) h) 3) 0 ≡ cond b (word s a h 3) 0
      go true e = e tt
      go false e = refl

  pub start-after : (a : Arena) (h : ℕ) → at a h ∈ m → h < size s a → T (has_run s a h) → word after a (rank (is_kept m a) h) 2 ≡ start_after s m a h
  unfolding adjusted
  start-after a h i l t =
      word_after a h 2 i l (le_trans (lit< tt) (run-wide a h t))
      ∙ ap (λ y. adjusted m (start_after s m a h) y (word s a h 2)) (start-slot a h t)

  module _ (c : Sound s) where
    -- a run lies in its pool
    pub run_fits : (a : Arena) (h : ℕ) → h < size s a → length (run s a h) ≡ span s a h
    run_fits a h l = ap length (run-eq s a h) ∙ go (has_run s a h) refl
      where
        go : (b : Bool) → has_run s a h ≡ b → length (take (span s a h) (drop (word s a h 2) (pool s a))) ≡ span s a h
        go true e =
            let t : T (has_run s a h) = subst T (sym e) tt in
            let q : word s a h 2 + span s a h ≤ length (pool s a) = start_fits s a h (c.shapes a h l) (start-slot a h t) (subst (λ n. 2 < n) (sym (length-layout a h)) (le_trans (lit< tt) (run-wide a h t))) in
            simp (length-take, length-drop) (omega arith)
        go false e = rw (no_span s a h e)

    -- and begins where those before it end
    pub run-there : (a : Arena) (h : ℕ) → h < size s a → run s a h ≡ take (span s a h) (drop (runs_before s a h) (pool s a))
    run-there a h l = run-eq s a h ∙ go (has_run s a h) refl
      where
        go : (b : Bool) → has_run s a h ≡ b → take (span s a h) (drop (word s a h 2) (pool s a)) ≡ take (span s a h) (drop (runs_before s a h) (pool s a))
        go true e =
            let t : T (has_run s a h) = subst T (sym e) tt in
            ap (λ n. take (span s a h) (drop n (pool s a)))
            (start_is s a h (c.shapes a h l) (start-slot a h t) (subst (λ n. 2 < n) (sym (length-layout a h)) (le_trans (lit< tt) (run-wide a h t))))
        go false e = rw (no_span s a h e)

    pub pool-after : (a : Arena) (h : ℕ) → T (has_run s a h) → pool after a ≡ runs_up_to s m a (size s a)
    unfolding has_run pool kept_areas
    pool-after types h t = refl
    pool-after constants h t = absurd t
    pool-after overrides h t = absurd t
    pool-after globals h t = absurd t
    pool-after expressions h t = refl

    pub start-total : (a : Arena) (h : ℕ) → h ≤ size s a → total (is_kept m a) (λ j. length (map (new_handle (is_kept m a)) (run s a j))) h ≡ start_after s m a h
    unfolding start_after
    start-total a h l =
        total-cong (is_kept m a) (λ j. length (map (new_handle (is_kept m a)) (run s a j))) (span s a) h
        (λ j q t. length-map (run s a j) (new_handle (is_kept m a)) ∙ run_fits a j (le_trans q l))

    run-part : (a : Arena) (h : ℕ) → h < size s a → at a h ∈ m
        → take (length (map (new_handle (is_kept m a)) (run s a h))) (drop (total (is_kept m a) (λ j. length (map (new_handle (is_kept m a)) (run s a j))) h) (runs_up_to s m a (size s a)))
        ≡ map (new_handle (is_kept m a)) (run s a h)
    unfolding runs_up_to
    run-part a h l i = gather-part (is_kept m a) (λ j. map (new_handle (is_kept m a)) (run s a j)) h (size s a) i l

    pub run-after : (a : Arena) (h : ℕ) → at a h ∈ m → h < size s a → run after a (rank (is_kept m a) h) ≡ map (new_handle (is_kept m a)) (run s a h)
    run-after a h i l = run-eq after a (rank (is_kept m a) h) ∙ go (has_run s a h) refl
      where
        go : (b : Bool) → has_run s a h ≡ b
            → take (span after a (rank (is_kept m a) h)) (drop (word after a (rank (is_kept m a) h) 2) (pool after a)) ≡ map (new_handle (is_kept m a)) (run s a h)
        go true e =
            let t : T (has_run s a h) = subst T (sym e) tt in
            let n : length (map (new_handle (is_kept m a)) (run s a h)) ≡ span s a h = length-map (run s a h) (new_handle (is_kept m a)) ∙ run_fits a h l in
            rw (span-after a h i l, start-after a h i l t, pool-after a h t, ← n, ← start-total a h (le_trans (omega arith) l))
            (run-part a h l i)
        go false e =
            rw (span-after a h i l, run-eq s a h, no_span s a h e)

    -- ---- the references

    module _ (inside : Within m (Inside s)) (closed : Closed s (λ x. x ∈ m)) where
      pub kept-few : (a : Arena) (h : ℕ) → at a h ∈ m → h < N
      kept-few a h i = le_trans (inside-lt s a h (inside (at a h) i)) (le_trans (omega arith) (size_few s c.few a))

      pub new-few : (a : Arena) (h : ℕ) → at a h ∈ m → new_handle (is_kept m a) h ≡ N → ⊥
      new-few a h i e =
          let q : rank (is_kept m a) h ≡ N = sym (new-kept m a h i) ∙ e in
          let r : rank (is_kept m a) h ≤ h = rank-le (is_kept m a) h in
          let k : h < N = kept-few a h i in
          omega arith

      named-after : (b : ℕ) (l : Slot) (w : ℕ) → SlotHolds (λ x. x ∈ m) l w → named_by l (adjusted m b l w) ≡ map (moved m) (named_by l w)
      unfolding named_by adjusted moved
      named-after b unused w p = refl
      named-after b free w p = refl
      named-after b (below n) w p = refl
      named-after b (must a) w p = refl
      named-after b (may a) w p = go (eqb w N) refl
        where
          go : (d : Bool) → eqb w N ≡ d
              → named_by (may a) (cond d N (new_handle (is_kept m a) w)) ≡ map (moved m) (cond d [] (at a w ∷ []))
          go true e = refl
          go false e = rw (ne_eqb (new_handle (is_kept m a) w) N (new-few a w (p (eqb-false w N e))))
      named-after b start w p = refl
      named-after b count w p = refl

      named_in-after : (b : ℕ) (f g : ℕ → ℕ) (k : ℕ) (ls : List Slot)
          → ((j : ℕ) → j < length ls → g (k + j) ≡ adjusted m b (get_or ls j unused) (f (k + j)))
          → EachSlot (λ x. x ∈ m) f k ls → named_from g k ls ≡ map (moved m) (named_from f k ls)
      unfolding named_from
      named_in-after b f g k [] e p = refl
      named_in-after b f g k (l ∷ ls) e p =
          let q : g k ≡ adjusted m b l (f k) = rw add-zero at (e 0 (zero-lt-suc (length ls))) in
          let r : named_from g (suc k) ls ≡ map (moved m) (named_from f (suc k) ls) =
          named_in-after b f g (suc k) ls (λ j n. shift j (e (suc j) (suc-le-suc n))) p.1 in
          rw (q, named-after b l (f k) p.0, r) (sym (map-append (moved m) (named_by l (f k)) (named_from f (suc k) ls)))
        where
          shift : (j : ℕ) → g (k + suc j) ≡ adjusted m b (get_or ls j unused) (f (k + suc j)) → g (suc k + j) ≡ adjusted m b (get_or ls j unused) (f (suc k + j))
          shift j h = subst (λ i. g i ≡ adjusted m b (get_or ls j unused) (f i)) (add-suc k j ∙ sym (suc-add k j)) h

      -- each kept record refers to the new places of what it referred to before
      pub references-after : (a : Arena) (h : ℕ) → at a h ∈ m → references after (at a (rank (is_kept m a) h)) ≡ map (moved m) (references s (at a h))
      references-after a h i =
          let l : h < size s a = inside-lt s a h (inside (at a h) i) in
          let w : Within (named_from (word s a h) 0 (layout s a h)) (λ x. x ∈ m) =
          λ y j. closed (at a h) y i (subst (λ q. y ∈ q) (sym (refs-eq s a h)) (append_left y (named_from (word s a h) 0 (layout s a h)) (map (at a) (run s a h)) j)) in
          refs-eq after a (rank (is_kept m a) h)
          ∙ ap₂ (λ x y. named_from (word after a (rank (is_kept m a) h)) 0 x ++ map (at a) y) (layout-after a h i l) (run-after a h i l)
          ∙ ap₂ ◌++◌
          (named_in-after (start_after s m a h) (word s a h) (word after a (rank (is_kept m a) h)) 0 (layout s a h)
          (λ j n. read j (word_after a h j i l (subst (λ q. j < q) (length-layout a h) n)))
          (within-slots (λ x. x ∈ m) (word s a h) 0 (layout s a h) w))
          (map-moved m a (run s a h))
          ∙ sym (map-append (moved m) (named_from (word s a h) 0 (layout s a h)) (map (at a) (run s a h)))
          ∙ ap (map (moved m)) (sym (refs-eq s a h))
        where
          read : (j : ℕ) → word after a (rank (is_kept m a) h) j ≡ adjusted m (start_after s m a h) (get_or (layout s a h) j unused) (word s a h j)
              → word after a (rank (is_kept m a) h) (0 + j) ≡ adjusted m (start_after s m a h) (get_or (layout s a h) j unused) (word s a h (0 + j))
          read j e = rw (zero-add j) e

      -- in the place that it moves to
      pub moved-refers : (x : Elem) → x ∈ m → references after (moved m x) ≡ map (moved m) (references s x)
      unfolding moved
      moved-refers (at a h) i = rw (new-kept m a h i) (references-after a h i)

      -- what was kept lies inside, at its new place
      pub moved_inside : (x : Elem) → x ∈ m → Inside after (moved m x)
      unfolding moved
      moved_inside (at a h) i =
          lt-inside after a (new_handle (is_kept m a) h) (rw (new-kept m a h i, size-after a) (rank_below m a h (size s a) i (inside-lt s a h (inside (at a h) i))))
