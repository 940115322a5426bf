-- The tests of numbers 4 to 7 and the faults: a record fails its test exactly where something of it is at fault.
-- Assumes nothing.
use mathlib.Core.Path.{◌≡◌, refl, sym, subst, ◌∙◌}
use mathlib.Core.Bool.{Bool, true, false, not, cond}
use mathlib.Core.Logic.{◌⊎◌, inl, inr, ⊎_elim}
use mathlib.Core.List.{List, [], ◌∷◌}
use Prim.Native.Nat.{ℕ, zero, suc, ◌+◌, ◌≤◌, ◌<◌, zero-le}
use native.Mathlib.Nat.{zero-add, le_refl, le_trans, le_of_lt, not-suc-le-zero, le_of_suc-le-suc}
use native.Mathlib.Decide.{dec_lt}
use native.Mathlib.Omega.{arith}
use lib.Dec.{T, eqb, ltb, leb, eqb→eq, leb→le, lit<}
use lib.ListN.{length, get_or}
use borrow.Author.Tests.{eqb-true, eqb-false, eq-eqb, ne_eqb}
use Rattle.definitions.specs.Lists.{all, total}
use Rattle.definitions.specs.Areas.{Areas, Arena, Elem, N, at, constants, expressions, globals, area_number, overrides, pool, size, types}
use Rattle.definitions.specs.Areas.{width, word}
use Rattle.definitions.specs.Slots.{Slot, below, count, free, layout, may, must, start, unused}
use Rattle.definitions.specs.References.{has_run, references, run, span}
use Rattle.definitions.specs.Order.{later, past_dep, one_past, sized_by, well_ordered, with_behind}
use Rattle.definitions.specs.Refusals.{every, held, held_at, inside, of_module, runs_before, shaped, shaped_at}
use Rattle.definitions.specs.Faults.{Absent, Fault, Leads, Misplaced, Misshapen, Missing, slot_at, none, outside, needed, optional}
use Rattle.definitions.specs.Faults.{taken, unknown, unpacked, overlong, straight, through, type_not_older, expression_not_older, dep_not_below}
use Rattle.definitions.specs.Faults.{misshapen, out_of_scope, missing, missing_in_run, misplaced}
use Rattle.definitions.proofs.Least.{◌∈◌, and_left, and_right, here, there, touched-self, touched-behind, touched-cases}
use Rattle.definitions.proofs.Tandem.{past-mono}
use Rattle.definitions.proofs.Kept.{Plain, all-within, sized_past}
use Rattle.definitions.proofs.Reading.{every-at, length-layout, no_span, run-wide, shaped-slot, start-slot}
use Rattle.definitions.proofs.Judged.{Fails, all-at, all-fails, and-fails, every-fails, get_or-any, leb-fails, ltb-fails}
use Rattle.definitions.proofs.Judged.{not_eqb, not-leb, not-ltb, not-not}

-- ---- the words of a record

module _ (s : Areas) (a : Arena) (h : ℕ) where
  -- does each word pass ?
  abbrev each_word : (Slot → ℕ → Bool) → Bool
  each_word p = every p (word s a h) 0 (layout s a h)

  -- where not, a word fails
  word-fails : (p : Slot → ℕ → Bool) → (T (each_word p) → ⊥) → Fails (width a) (λ k. p (slot_at s a h k) (word s a h k))
  unfolding slot_at
  word-fails p f =
      let q = every-fails p (word s a h) 0 (layout s a h) f in
      record { place = q.place; place-lt = rw (length-layout s [] a h) at q.place-lt; fails = rw zero-add at q.fails }

  -- and where a word fails, not
  fails-word : (p : Slot → ℕ → Bool) (k : ℕ) → k < width a → (T (p (slot_at s a h k) (word s a h k)) → ⊥) → T (each_word p) → ⊥
  unfolding slot_at
  fails-word p k l f t =
      let q : k < length (layout s a h) = rw (length-layout s [] a h) l in
      f (rw (get_or-any (layout s a h) k free unused q) (rw zero-add at (every-at p (word s a h) 0 (layout s a h) t k q)))

  -- is a start the sum of the counts before it ?
  abbrev packed : ℕ → Bool
  packed w = eqb w (runs_before s a h)

  -- does its run stay within the pool ?
  abbrev fits : ℕ → Bool
  fits w = leb (w + span s a h) (length (pool s a))

  -- a word that number 4 refuses is misshapen
  unshaped : (l : Slot) (w : ℕ) → (T (shaped s a h l w) → ⊥) → Misshapen s a h l w
  unfolding shaped
  unshaped unused w f = taken (not_eqb w N f)
  unshaped free w f = absurd (f tt)
  unshaped (below n) w f = unknown (not-ltb w n f)
  unshaped (must b) w f = absurd (f tt)
  unshaped (may b) w f = absurd (f tt)
  unshaped start w f =
      ⊎_elim (λ g. unpacked (not_eqb w (runs_before s a h) g)) (λ g. overlong (not-leb (w + span s a h) (length (pool s a)) g))
      (and-fails (packed w) (fits w) f)
  unshaped count w f = absurd (f tt)

  -- and no other is
  misshapen-fails : {l : Slot} {w : ℕ} → Misshapen s a h l w → T (shaped s a h l w) → ⊥
  unfolding shaped
  misshapen-fails (taken {w} n) t = n (eqb→eq w N t)
  misshapen-fails (unknown l) t = ltb-fails l t
  misshapen-fails (unpacked {w} n) t = n (eqb→eq w (runs_before s a h) (and_left (packed w) (fits w) t))
  misshapen-fails (overlong {w} l) t = leb-fails l (and_right (packed w) (fits w) t)

  -- where the runs before a shaped record end within the pool, its own does too
  run_ends : T (shaped_at s a h) → runs_before s a h ≤ length (pool s a) → runs_before s a h + span s a h ≤ length (pool s a)
  unfolding shaped
  run_ends c l = go (has_run s a h) refl
    where
      go : (b : Bool) → has_run s a h ≡ b → runs_before s a h + span s a h ≤ length (pool s a)
      go true e =
          let t : T (has_run s a h) = subst T (sym e) tt in
          let k : 2 < length (layout s a h) = rw (length-layout s [] a h) (le_trans (lit< tt) (run-wide s [] a h t)) in
          let w = word s a h 2 in
          let u : T (shaped s a h start w) = rw (start-slot s [] a h t) at (shaped-slot s a h c 2 k) in
          let p = eqb→eq w (runs_before s a h) (and_left (packed w) (fits w) u) in
          let q = leb→le (w + span s a h) (length (pool s a)) (and_right (packed w) (fits w) u) in
          omega arith
      go false e = rw (no_span s a h e) (omega arith)

module _ (s : Areas) where
  -- where all records are shaped, their runs end within the pool
  pub runs-end : (a : Arena) → ((h : ℕ) → h < size s a → T (shaped_at s a h))
      → (n : ℕ) → n ≤ size s a → runs_before s a n ≤ length (pool s a)
  unfolding runs_before total
  runs-end a c zero l = zero-le
  runs-end a c (suc n) l = run_ends s a n (c n l) (runs-end a c n (le_of_lt l))

  -- ---- the handles of a record

  -- a handle that number 6 refuses is absent
  pub outside-absent : (a : Arena) (w : ℕ) → (T (inside s (at a w)) → ⊥) → Absent s a w
  unfolding inside
  outside-absent a w f = outside (not-ltb w (size s a) f)

  -- a word that it refuses lacks its handle
  unheld : (l : Slot) (w : ℕ) → (T (held s l w) → ⊥) → Missing s l w
  unfolding held inside
  unheld unused w f = absurd (f tt)
  unheld free w f = absurd (f tt)
  unheld (below n) w f = absurd (f tt)
  unheld (must a) w f = needed (outside-absent a w f)
  unheld (may a) w f = go (eqb w N) (eqb-false w N) f
    where
      go : (b : Bool) → (b ≡ false → w ≡ N → ⊥) → (T (cond b true (ltb w (size s a))) → ⊥) → Missing s (may a) w
      go true n g = absurd (g tt)
      go false n g = optional (n refl) (not-ltb w (size s a) g)
  unheld start w f = absurd (f tt)
  unheld count w f = absurd (f tt)

  module _ (few : (a : Arena) → size s a < N) where
    -- where each arena has fewer records than N, no other handle is absent
    pub absent-fails : {a : Arena} {w : ℕ} → Absent s a w → T (inside s (at a w)) → ⊥
    unfolding inside
    absent-fails {a} none t = ltb-fails (le_of_lt (few a)) t
    absent-fails (outside l) t = ltb-fails l t

    -- and no other word lacks its handle
    missing-fails : {l : Slot} {w : ℕ} → Missing s l w → T (held s l w) → ⊥
    unfolding held inside
    missing-fails (needed m) t = absent-fails m t
    missing-fails (optional {w = w} n l) t = ltb-fails l (rw (ne_eqb w N n) at t)

  -- ---- the order of a record

  -- type v is sized by an override whose init isn't below e
  record Sizes (v e : ℕ) : Type 0 where
    kind : word s types v 0 ≡ 2
    init-there : word s overrides (word s types v 3) 2 ≡ N → ⊥
    init-late : e ≤ word s overrides (word s types v 3) 2

  -- one more than that init is above e
  sizes-above : (v e : ℕ) → Sizes v e → e < sized_by s v
  unfolding sized_by one_past
  sizes-above v e z =
      rw (eq-eqb (word s types v 0) 2 z.kind, ne_eqb (word s overrides (word s types v 3) 2) N z.init-there) (omega arith)

  -- and no other is
  above-sizes : (v e : ℕ) → e < sized_by s v → Sizes v e
  unfolding sized_by one_past
  above-sizes v e l = go (eqb (word s types v 0) 2) (eqb-true (word s types v 0) 2) (eqb i N) (eqb-false i N) l
    where
      i : ℕ
      i = word s overrides (word s types v 3) 2

      go : (b : Bool) → (b ≡ true → word s types v 0 ≡ 2) → (c : Bool) → (c ≡ false → i ≡ N → ⊥) → e < cond b (cond c 0 (suc i)) 0 → Sizes v e
      go true k true n q = absurd (not-suc-le-zero q)
      go true k false n q = record { kind = k refl; init-there = n refl; init-late = le_of_suc-le-suc q }
      go false k c n q = absurd (not-suc-le-zero q)

  -- where dep(T) isn't below e, T or a type before it is sized so
  dep-sizes : (t e : ℕ) → e < past_dep s t → (v : ℕ) × (v ≤ t) × Sizes v e
  unfolding past_dep
  dep-sizes zero e l = (0, le_refl 0, above-sizes 0 e l)
  dep-sizes (suc t) e l = go (dec_lt e (past_dep s t)) (dep-sizes t e)
    where
      go : Dec (e < past_dep s t) → (e < past_dep s t → (v : ℕ) × (v ≤ t) × Sizes v e) → (v : ℕ) × (v ≤ suc t) × Sizes v e
      go (yes q) r = let z = r q in (z.0, omega arith, z.2)
      go (no q) r = (suc t, le_refl (suc t), above-sizes (suc t) e (omega arith))

  -- what x doesn't come later than is misplaced
  unplaced : (x y : Elem) → (T (later s x y) → ⊥) → Misplaced s x y
  unfolding later
  unplaced (at types t) (at types u) f = type_not_older (not-ltb u t f)
  unplaced (at types t) (at constants u) f = absurd (f tt)
  unplaced (at types t) (at overrides u) f = absurd (f tt)
  unplaced (at types t) (at globals u) f = absurd (f tt)
  unplaced (at types t) (at expressions u) f = absurd (f tt)
  unplaced (at constants t) y f = absurd (f tt)
  unplaced (at overrides t) y f = absurd (f tt)
  unplaced (at globals t) y f = absurd (f tt)
  unplaced (at expressions e) (at types u) f =
      let z = dep-sizes u e (not-leb (past_dep s u) e f) in
      dep_not_below z.1 z.2.kind refl z.2.init-there z.2.init-late
  unplaced (at expressions e) (at constants u) f = absurd (f tt)
  unplaced (at expressions e) (at overrides u) f = absurd (f tt)
  unplaced (at expressions e) (at globals u) f = absurd (f tt)
  unplaced (at expressions e) (at expressions u) f = expression_not_older (not-ltb u e f)

  -- and nothing else is
  misplaced-fails : {x y : Elem} → Misplaced s x y → T (later s x y) → ⊥
  unfolding later
  misplaced-fails (type_not_older l) q = ltb-fails l q
  misplaced-fails (expression_not_older l) q = ltb-fails l q
  misplaced-fails (dep_not_below {e} {t} {v} b k w n l) q =
      let z = sizes-above v e (record { kind = k; init-there = λ m. n (sym w ∙ m); init-late = rw w l }) in
      leb-fails (le_trans z (le_trans (sized_past s v) (past-mono s t v b))) q

  -- only types and expressions have an order
  pub misplaced-plain : {x y : Elem} → Misplaced s x y → Plain x
  misplaced-plain (type_not_older l) = tt
  misplaced-plain (expression_not_older l) = tt
  misplaced-plain (dep_not_below b k w n l) = tt

  -- x leads to what it refers to, with what stands behind each
  leads : (x y : Elem) → y ∈ with_behind s (references s x) → Leads s x y
  leads x y i = ⊎_elim (λ j. straight j) (λ b. through b.front b.front-in b.is-behind) (touched-cases s y (references s x) i)

  -- and to nothing else
  leads-in : {x y : Elem} → Leads s x y → y ∈ with_behind s (references s x)
  leads-in {x} (straight {y} i) = touched-self s y (references s x) i
  leads-in {x} (through {y} z i j) = touched-behind s z y (references s x) i j

-- what is read from a list is in it
get_or-in : (l : List Elem) (i : ℕ) (d : Elem) → i < length l → get_or l i d ∈ l
get_or-in [] i d l = absurd (not-suc-le-zero l)
get_or-in (x ∷ xs) zero d l = here x xs
get_or-in (x ∷ xs) (suc i) d l = there (get_or xs i d) x xs (get_or-in xs i d (le_of_suc-le-suc l))

-- ---- a record that is at fault fails its test

module _ (s : Areas) (a : Arena) (h : ℕ) where
  -- number 6 asks two things: each slot's handle is there, and each of the run
  abbrev slots_held : Bool
  slots_held = each_word s a h (held s)

  abbrev run_held : Bool
  run_held = all (λ w. inside s (at a w)) (run s a h)

  -- 4: a misshapen word
  pub fails4 : (k : ℕ) → k < width a → Misshapen s a h (slot_at s a h k) (word s a h k) → T (shaped_at s a h) → ⊥
  unfolding shaped_at
  fails4 k l m = fails-word s a h (shaped s a h) k l (misshapen-fails s a h m)

  -- 6: a slot's handle that is missing
  pub fails6 : ((b : Arena) → size s b < N) → (k : ℕ) → k < width a → Missing s (slot_at s a h k) (word s a h k) → T (held_at s a h) → ⊥
  unfolding held_at
  fails6 few k l m t = fails-word s a h (held s) k l (missing-fails s few m) (and_left slots_held run_held t)

  -- 6: a run's handle that is absent
  pub fails6-run : ((b : Arena) → size s b < N) → (i : ℕ) → i < length (run s a h) → Absent s a (get_or (run s a h) i 0)
      → T (held_at s a h) → ⊥
  unfolding held_at
  fails6-run few i l m t = absent-fails s few m (all-at (λ w. inside s (at a w)) (run s a h) 0 (and_right slots_held run_held t) i l)

  -- 7: something misplaced
  pub fails7 : (y : Elem) → Leads s (at a h) y → Misplaced s (at a h) y → T (well_ordered s a h) → ⊥
  unfolding well_ordered
  fails7 y d m t = misplaced-fails s m (all-within s (later s (at a h)) (with_behind s (references s (at a h))) t y (leads-in s d))

-- 5: a kind out of scope
pub fails5 : (s : Areas) (h : ℕ) → (word s expressions h 0 ≡ 13) ⊎ (word s expressions h 0 ≡ 27) → T (of_module s expressions h) → ⊥
unfolding of_module
fails5 s h (inl e) t = rw e at t
fails5 s h (inr e) t = rw e at t

-- ---- and one that fails its test is at fault

module _ (s : Areas) (maps : List ℕ) (a : Arena) (h : ℕ) where
  -- 4: in a word
  pub fault4 : h < size s a → (T (shaped_at s a h) → ⊥) → Fault s maps 4 (area_number a) h
  unfolding shaped_at
  fault4 l f =
      let q = word-fails s a h (shaped s a h) f in
      misshapen a q.place l q.place-lt (unshaped s a h (slot_at s a h q.place) (word s a h q.place) q.fails)

  -- 6: in a slot, or in the run
  pub fault6 : h < size s a → (T (held_at s a h) → ⊥) → Fault s maps 6 (area_number a) h
  unfolding held_at
  fault6 l f =
      ⊎_elim
      (λ g.
      let q = word-fails s a h (held s) g in
      missing a q.place l q.place-lt (unheld s (slot_at s a h q.place) (word s a h q.place) q.fails))
      (λ g.
      let q = all-fails (λ w. inside s (at a w)) (run s a h) 0 g in
      missing_in_run a q.place l q.place-lt (outside-absent s a (get_or (run s a h) q.place 0) q.fails))
      (and-fails (slots_held s a h) (run_held s a h) f)

  -- 7: in something that it leads to
  pub fault7 : h < size s a → (T (well_ordered s a h) → ⊥) → Fault s maps 7 (area_number a) h
  unfolding well_ordered
  fault7 l f =
      let ys = with_behind s (references s (at a h)) in
      let q = all-fails (later s (at a h)) ys (at a h) f in
      let y = get_or ys q.place (at a h) in
      misplaced a y l (leads s (at a h) y (get_or-in ys q.place (at a h) q.place-lt)) (unplaced s (at a h) y q.fails)

-- 5: in its kind
pub fault5 : (s : Areas) (maps : List ℕ) (h : ℕ) → h < size s expressions → (T (of_module s expressions h) → ⊥) → Fault s maps 5 4 h
unfolding of_module
fault5 s maps h l f =
    let k = word s expressions h 0 in
    ⊎_elim (λ g. out_of_scope l (inl (eqb→eq k 13 (not-not (eqb k 13) g)))) (λ g. out_of_scope l (inr (eqb→eq k 27 (not-not (eqb k 27) g))))
    (and-fails (not (eqb k 13)) (not (eqb k 27)) f)
