-- A pass that keeps every element of an accepted module changes nothing; so the second pass changes no record and no mention.
-- Assumes nothing.
use mathlib.Core.Path.{◌≡◌, refl, sym, ap, ap₂, subst, ◌∙◌}
use mathlib.Core.Bool.{Bool, true, false, cond}
use mathlib.Core.List.{List, [], ◌∷◌, ◌++◌, map, append-nil}
use Prim.Native.Nat.{ℕ, zero, suc, ◌+◌, ◌*◌, ◌/◌, ◌%◌, ◌-◌, ◌≤◌, ◌<◌}
use native.Mathlib.Nat.{mul-one, le_refl, le_trans, mod-lt, div-add-mod', div-lt_iff_lt-mul, add-zero, zero-add}
use native.Mathlib.Omega.{arith}
use lib.Dec.{T, eqb, leb, eqb→eq, lit<}
use lib.ListN.{length, get_or, take}
use lib.Seq.{ext_get_or, take-add, take-length}
use borrow.Author.Tests.{eqb-true}
use Rattle.definitions.specs.Lists.{all, always, gather, total}
use Rattle.definitions.specs.Areas.{Areas, Arena, Elem, N, Words, all_words, at, constants, expressions, globals, length_of, mention_count, mention_width, mention_word, numbered, overrides, pool, size, types, width, widths, word, words}
use Rattle.definitions.specs.Slots.{Slot, below, count, free, layout, may, must, start, unused}
use Rattle.definitions.specs.References.{run, span}
use Rattle.definitions.specs.Roots.{mention}
use Rattle.definitions.specs.Sweep.{has, kept, kept_from}
use Rattle.definitions.specs.Refusals.{every, held, held_at, check, inside as test, passes, runs_before, shaped}
use Rattle.definitions.specs.Numbering.{is_kept, moved, new_handle, rank}
use Rattle.definitions.specs.Outcome.{Maps, lengths, outcome, outcome_of}
use Rattle.definitions.specs.Records.{adjusted, areas_after, kept_areas, padded, mention_after, runs_up_to, start_after}
use Rattle.definitions.proofs.ListLaws.{total-always, total-step}
use Rattle.definitions.proofs.Least.{◌∈◌, and_left, and_right, Within, Closed}
use Rattle.definitions.proofs.Accepted.{Sound}
use Rattle.definitions.proofs.Kept.{Inside, inside-lt, lt-inside, inside-closed, OrderedOn, from-inside}
use Rattle.definitions.proofs.Places.{new-kept}
use Rattle.definitions.proofs.Reading.{after, width-pos, word_after, length-after, length-layout, shaped-slot, every-at, run-there}
use Rattle.definitions.proofs.AcceptedAfter.{mention_word-after, mentions-length}
use Rattle.definitions.proofs.Unchanged.{outcome-accepted}
use Rattle.definitions.proofs.SecondPass.{accepted-again, drops-nothing}

multiple : (n w : ℕ) → T (eqb (n % w) 0) → n ≡ n / w * w
multiple n w t =
    let e : n % w ≡ 0 = eqb→eq (n % w) 0 t in
    let q : n / w * w + n % w ≡ n = div-add-mod' n w in
    sym q ∙ ap (λ r. n / w * w + r) e ∙ add-zero (n / w * w)

count-twice : (s : Areas) → Sound s → length s.mentions ≡ mention_count s * mention_width
unfolding mention_count length_of all_words widths
count-twice s c = multiple (length s.mentions) mention_width (c.whole 7 (lit< tt))

mention-at : (s : Areas) (m : List Elem) (h k : ℕ) → mention_word (after s m) h k ≡ mention_word s h k
    → get_or (after s m).mentions (h * mention_width + k) 0 ≡ get_or s.mentions (h * mention_width + k) 0
unfolding mention_word
mention-at s m h k e = e

module _ (s : Areas) (m : List Elem) (c : Sound s) (ins : Within m (Inside s)) (full : (x : Elem) → Inside s x → x ∈ m) where
  clo : Closed s (λ x. x ∈ m)
  clo x y i r = full y (inside-closed s c x y (ins x i) r)

  keeps : (a : Arena) (h : ℕ) → h < size s a → at a h ∈ m
  keeps a h l = full (at a h) (lt-inside s a h l)

  total-all : (a : Arena) (g : ℕ → ℕ) (h : ℕ) → h ≤ size s a → total (is_kept m a) g h ≡ total always g h
  unfolding total
  total-all a g zero l = refl
  total-all a g (suc h) l = total-step (is_kept m a) g h (keeps a h l) ∙ ap (λ n. n + g h) (total-all a g h (le_trans (omega arith) l))

  rank-all : (a : Arena) (h : ℕ) → h ≤ size s a → rank (is_kept m a) h ≡ h
  unfolding rank
  rank-all a h l = total-all a (λ _. 1) h l ∙ total-always 1 h ∙ mul-one h

  new-all : (a : Arena) (h : ℕ) → h < size s a → new_handle (is_kept m a) h ≡ h
  new-all a h l = new-kept m a h (keeps a h l) ∙ rank-all a h (le_trans (omega arith) l)

  start-all : (a : Arena) (h : ℕ) → h ≤ size s a → start_after s m a h ≡ runs_before s a h
  unfolding start_after runs_before
  start-all a h l = total-all a (span s a) h l

  -- each word stays
  slot-stays : (a : Arena) (h : ℕ) → h < size s a → (l : Slot) (w : ℕ) → T (shaped s a h l w) → T (held s l w) → adjusted m (start_after s m a h) l w ≡ w
  unfolding shaped held adjusted
  slot-stays a h k unused w t u = refl
  slot-stays a h k free w t u = refl
  slot-stays a h k (below n) w t u = refl
  slot-stays a h k (must b) w t u = new-all b w (inside-lt s b w u)
  slot-stays a h k (may b) w t u = go (eqb w N) (eqb-true w N) u
    where
      go : (d : Bool) → (d ≡ true → w ≡ N) → T (cond d true (test s (at b w))) → cond d N (new_handle (is_kept m b) w) ≡ w
      go true e v = sym (e refl)
      go false e v = new-all b w (inside-lt s b w v)
  slot-stays a h k start w t u =
      start-all a h (le_trans (omega arith) k) ∙ sym (eqb→eq w (runs_before s a h) (and_left (eqb w (runs_before s a h)) (leb (w + span s a h) (length (pool s a))) t))
  slot-stays a h k count w t u = refl

  held-slot : (a : Arena) (h : ℕ) → T (held_at s a h) → (j : ℕ) → j < length (layout s a h) → T (held s (get_or (layout s a h) j unused) (word s a h j))
  unfolding held_at
  held-slot a h t j l =
      subst (λ i. T (held s (get_or (layout s a h) j unused) (word s a h i))) (zero-add j)
      (every-at (held s) (word s a h) 0 (layout s a h) (and_left (every (held s) (word s a h) 0 (layout s a h)) (all (λ w. test s (at a w)) (run s a h)) t) j l)

  word-all : (a : Arena) (h k : ℕ) → h < size s a → k < width a → word (after s m) a h k ≡ word s a h k
  word-all a h k l b =
      let n : k < length (layout s a h) = subst (λ q. k < q) (sym (length-layout s m a h)) b in
      subst (λ r. word (after s m) a r k ≡ word s a h k) (rank-all a h (le_trans (omega arith) l))
      (word_after s m a h k (keeps a h l) l b
      ∙ slot-stays a h l (get_or (layout s a h) k unused) (word s a h k) (shaped-slot s a h (c.shapes a h l) k n) (held-slot a h (c.holds a h l) k n))

  words-at : (a : Arena) (h k : ℕ) → h < size s a → k < width a → get_or (words (after s m) a) (h * width a + k) 0 ≡ get_or (words s a) (h * width a + k) 0
  words-at a h k l b = unfold word in (word-all a h k l b)

  words-length : (a : Arena) → length (words s a) ≡ size s a * width a
  unfolding size words length_of all_words widths
  words-length types = multiple (length s.types) (width types) (c.whole 0 (lit< tt))
  words-length constants = multiple (length s.constants) (width constants) (c.whole 1 (lit< tt))
  words-length overrides = multiple (length s.overrides) (width overrides) (c.whole 2 (lit< tt))
  words-length globals = multiple (length s.globals) (width globals) (c.whole 3 (lit< tt))
  words-length expressions = multiple (length s.expressions) (width expressions) (c.whole 4 (lit< tt))

  pub words-all : (a : Arena) → words (after s m) a ≡ words s a
  words-all a = ext_get_or 0 (words (after s m) a) (words s a) same_length (λ i l. at-index i (subst (λ n. i < n) (same_length ∙ words-length a) l))
    where
      same_length : length (words (after s m) a) ≡ length (words s a)
      same_length = length-after s m a ∙ ap (λ n. n * width a) (rank-all a (size s a) (le_refl (size s a))) ∙ sym (words-length a)

      at-index : (i : ℕ) → i < size s a * width a → get_or (words (after s m) a) i 0 ≡ get_or (words s a) i 0
      at-index i l =
          subst (λ j. get_or (words (after s m) a) j 0 ≡ get_or (words s a) j 0) (div-add-mod' i (width a))
          (words-at a (i / width a) (i % width a) ((div-lt_iff_lt-mul (width-pos a)).1 l) (mod-lt i (width-pos a)))

  -- ---- the pools

  map-place : (a : Arena) (ws : Words) → T (all (λ w. test s (at a w)) ws) → map (new_handle (is_kept m a)) ws ≡ ws
  unfolding all
  map-place a [] t = refl
  map-place a (w ∷ ws) t =
      ap₂ (λ p q. p ∷ q) (new-all a w (inside-lt s a w (and_left (test s (at a w)) (all (λ w. test s (at a w)) ws) t)))
      (map-place a ws (and_right (test s (at a w)) (all (λ w. test s (at a w)) ws) t))

  run-place : (a : Arena) (h : ℕ) → h < size s a → map (new_handle (is_kept m a)) (run s a h) ≡ run s a h
  unfolding held_at
  run-place a h l = map-place a (run s a h) (and_right (every (held s) (word s a h) 0 (layout s a h)) (all (λ w. test s (at a w)) (run s a h)) (c.holds a h l))

  runs-all : (a : Arena) (h : ℕ) → h ≤ size s a → gather (is_kept m a) (λ j. map (new_handle (is_kept m a)) (run s a j)) h ≡ take (runs_before s a h) (pool s a)
  unfolding gather runs_before total
  runs-all a zero l = refl
  runs-all a (suc h) l =
      ap₂ (λ p q. p ++ q) (runs-all a h (le_trans (omega arith) l)) (passed (has m (at a h)) (keeps a h l) ∙ run-place a h l ∙ run-there s m c a h l)
      ∙ sym (take-add (runs_before s a h) (span s a h) (pool s a))
    where
      passed : (b : Bool) → T b → cond b (map (new_handle (is_kept m a)) (run s a h)) [] ≡ map (new_handle (is_kept m a)) (run s a h)
      passed true t = refl
      passed false t = absurd t

  runs-whole : (a : Arena) → T (eqb (runs_before s a (size s a)) (length (pool s a))) → runs_up_to s m a (size s a) ≡ pool s a
  unfolding runs_up_to
  runs-whole a t =
      runs-all a (size s a) (le_refl (size s a)) ∙ ap (λ n. take n (pool s a)) (eqb→eq (runs_before s a (size s a)) (length (pool s a)) t) ∙ take-length (pool s a)

  -- ---- the mentions

  mention-words : (h k : ℕ) → h < mention_count s → k < mention_width → get_or (mention_after s m h) k 0 ≡ mention_word s h k
  unfolding mention_after
  mention-words h zero l b = refl
  mention-words h (suc zero) l b = new-all (numbered (mention_word s h 0)) (mention_word s h 1) (inside-lt s (numbered (mention_word s h 0)) (mention_word s h 1) (held-mention h l))
    where
      held-mention : (h : ℕ) → h < mention_count s → Inside s (at (numbered (mention_word s h 0)) (mention_word s h 1))
      held-mention h l = unfold mention in (c.mentions h l)
  mention-words h (suc (suc k)) l b = absurd (omega arith)

  mentions-all : (after s m).mentions ≡ s.mentions
  mentions-all = ext_get_or 0 (after s m).mentions s.mentions same_length (λ i l. at-index i (subst (λ n. i < n) (mentions-length s m c ins clo) l))
    where
      same_length : length (after s m).mentions ≡ length s.mentions
      same_length = mentions-length s m c ins clo ∙ sym (count-twice s c)

      at-index : (i : ℕ) → i < mention_count s * mention_width → get_or (after s m).mentions i 0 ≡ get_or s.mentions i 0
      at-index i l =
          subst (λ j. get_or (after s m).mentions j 0 ≡ get_or s.mentions j 0) (div-add-mod' i mention_width)
          (mention-at s m (i / mention_width) (i % mention_width) (mention_word-after s m c ins clo (i / mention_width) (i % mention_width) ((div-lt_iff_lt-mul (lit< tt)).1 l) (mod-lt i (lit< tt))
          ∙ mention-words (i / mention_width) (i % mention_width) ((div-lt_iff_lt-mul (lit< tt)).1 l) (mod-lt i (lit< tt))))

  -- nothing changes
  pub whole : kept_areas s m ≡ s
  unfolding words pool kept_areas
  whole = λ i.
      record {
        types = words-all types i;
        constants = words-all constants i;
        overrides = words-all overrides i;
        globals = words-all globals i;
        expressions = words-all expressions i;
        members = runs-whole types c.members-used i;
        components = runs-whole expressions c.components-used i;
        mentions = mentions-all i;
      }

-- the second pass changes no record and no mention
pub second-pass : (s : Areas) (c : Sound s) (rs : List Elem) (w : Within rs (Inside s)) (o : OrderedOn s (kept_from s rs))
    (mentioned : (h : ℕ) → h < mention_count s → mention s h ∈ kept_from s rs)
    (rs' : List Elem) → Within rs' (Inside (after s (kept_from s rs))) → ((x : Elem) → x ∈ rs → moved (kept_from s rs) x ∈ rs')
    → kept_areas (after s (kept_from s rs)) (kept_from (after s (kept_from s rs)) rs') ≡ after s (kept_from s rs)
second-pass s c rs w o mentioned rs' w' again =
    let sound = (accepted-again s c rs w o mentioned).sound in
    whole (after s (kept_from s rs)) (kept_from (after s (kept_from s rs)) rs') sound (from-inside (after s (kept_from s rs)) rs' sound w')
    (drops-nothing s c rs w o mentioned rs' w' again)

-- ---- and in the outcome no N is filled in

padded-self : (l : Words) → padded l l ≡ l
unfolding padded
padded-self l = let z : length l - length l ≡ 0 = omega arith in rw z (append-nil l)

-- where what is kept is all, so are the areas after
pub areas-self : (s : Areas) (m : List Elem) → kept_areas s m ≡ s → areas_after s m ≡ s
unfolding areas_after
areas-self s m e =
    rw e
    (λ i.
    record {
      types = padded-self s.types i;
      constants = padded-self s.constants i;
      overrides = padded-self s.overrides i;
      globals = padded-self s.globals i;
      expressions = padded-self s.expressions i;
      members = padded-self s.members i;
      components = padded-self s.components i;
      mentions = s.mentions;
    })

-- a pass that keeps every record as it is leaves every area as it was
pub outcome-self : (s : Areas) (p : Maps) (keep : Bool) → T (passes (check s (lengths p))) → kept_areas s (kept s keep) ≡ s → (outcome s p keep).areas ≡ s
unfolding outcome_of
outcome-self s p keep t e = rw (outcome-accepted s p keep t) (areas-self s (kept s keep) e)
