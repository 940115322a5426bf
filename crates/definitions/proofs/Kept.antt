-- Demand 3, of the module's own elements: what the sweep keeps of an accepted module, from any roots, is the least set that holds them and all that its members refer to.
-- Assumes nothing.
use mathlib.Core.Path.{◌≡◌, refl, sym, subst}
use mathlib.Core.Bool.{Bool, true, false, cond}
use mathlib.Core.Logic.{⊎_elim}
use mathlib.Core.List.{List, [], ◌∷◌, ◌++◌, map}
use Prim.Native.Nat.{ℕ, zero, suc, ◌+◌, ◌≤◌, ◌<◌}
use native.Mathlib.Nat.{le_refl, le_trans}
use native.Mathlib.Omega.{arith}
use lib.Dec.{T, eqb, ltb→lt, leb→le, lt→ltb}
use borrow.Author.Tests.{eqb-true, eqb-false, eq-eqb, ne_eqb}
use Rattle.definitions.specs.Lists.{all, always, count_up, select}
use Rattle.definitions.specs.Areas.{Areas, Arena, Elem, N, Words, at, constants, expressions, globals, mention_count, overrides, size, types, word}
use Rattle.definitions.specs.Slots.{body, type_body, expr_body, Slot, below, count, fill, free, layout, may, must, slots, start, tail, type_slots, unused}
use Rattle.definitions.specs.References.{has_run, named_by, named_from, references, run, span}
use Rattle.definitions.specs.Roots.{common_roots, is_named, mention, more_roots, named_override, root_constant, roots, those}
use Rattle.definitions.specs.Order.{behind, later, past_dep, one_past, order, sized_by, well_ordered, with_behind}
use Rattle.definitions.specs.Sweep.{kept, kept_from, sweep, visit}
use Rattle.definitions.specs.Refusals.{every, held, held_at, inside}
use Rattle.definitions.proofs.Least.{◌∈◌, and_left, and_right, cons-cases, none_in, append_cases, Within, Each, map-within, Sorted, touched-self, touched-behind, touched-cases, reached, visit-cases, visit-old, visit-new, sweep-old, Closed, touched-within, sweep-within, sweep-closed, touched-more, sweep-more}
use Rattle.definitions.proofs.Accepted.{Sound, Accepted}
use Rattle.definitions.proofs.Tandem.{Among, visits-among, Before, asym, visits-sorted, visits-types, visits-expressions}

-- a type or an expression: what is visited
abbrev pub Plain : Elem → Type 0
Plain (at types h) = Unit {0}
Plain (at constants h) = ⊥
Plain (at overrides h) = ⊥
Plain (at globals h) = ⊥
Plain (at expressions h) = Unit {0}

-- ---- what a record names

-- P holds of what the slot names
abbrev pub SlotHolds : (Elem → Type 0) → Slot → ℕ → Type 0
SlotHolds P unused w = Unit {0}
SlotHolds P free w = Unit {0}
SlotHolds P (below n) w = Unit {0}
SlotHolds P (must a) w = P (at a w)
SlotHolds P (may a) w = (w ≡ N → ⊥) → P (at a w)
SlotHolds P start w = Unit {0}
SlotHolds P count w = Unit {0}

abbrev pub EachSlot : (Elem → Type 0) → (ℕ → ℕ) → ℕ → List Slot → Type 0
EachSlot P f k [] = Unit {0}
EachSlot P f k (l ∷ ls) = SlotHolds P l (f k) × EachSlot P f (suc k) ls

single : (P : Elem → Type 0) (x : Elem) → P x → Within (x ∷ []) P
single P x p y h = ⊎_elim (λ e. subst P (sym e) p) (λ i. absurd (none_in y i)) (cons-cases y x [] h)

named-within : (P : Elem → Type 0) (l : Slot) (w : ℕ) → SlotHolds P l w → Within (named_by l w) P
unfolding named_by
named-within P unused w p y h = absurd (none_in y h)
named-within P free w p y h = absurd (none_in y h)
named-within P (below n) w p y h = absurd (none_in y h)
named-within P (must a) w p y h = single P (at a w) p y h
named-within P (may a) w p y h = go (eqb w N) (eqb-false w N) h
  where
    go : (b : Bool) → (b ≡ false → w ≡ N → ⊥) → y ∈ cond b [] (at a w ∷ []) → P y
    go true q i = absurd (none_in y i)
    go false q i = single P (at a w) (p (q refl)) y i
named-within P start w p y h = absurd (none_in y h)
named-within P count w p y h = absurd (none_in y h)

pub named_in-within : (P : Elem → Type 0) (f : ℕ → ℕ) (k : ℕ) (ls : List Slot) → EachSlot P f k ls → Within (named_from f k ls) P
unfolding named_from
named_in-within P f k [] e y h = absurd (none_in y h)
named_in-within P f k (l ∷ ls) e y h =
    ⊎_elim (λ i. named-within P l (f k) e.0 y i) (λ i. named_in-within P f (suc k) ls e.1 y i)
    (append_cases y (named_by l (f k)) (named_from f (suc k) ls) h)

-- a tail names nothing
tail-holds : (P : Elem → Type 0) (f : ℕ → ℕ) (k : ℕ) (ls : List Slot) → EachSlot P f k ls → EachSlot P f k (ls ++ tail)
tail-holds P f k [] e = (tt, (tt, (tt, tt)))
tail-holds P f k (l ∷ ls) e = (e.0, tail-holds P f (suc k) ls e.1)

pub append-within : (P : Elem → Type 0) (l m : List Elem) → Within l P → Within m P → Within (l ++ m) P
append-within P l m a b y h = ⊎_elim (λ i. a y i) (λ i. b y i) (append_cases y l m h)

module _ (s : Areas) where
  -- a constant, override or global names no other such
  behind-plain : (x : Elem) → Within (behind s x) Plain
  unfolding behind references layout slots run span has_run body type_body expr_body
  behind-plain (at types h) y i = absurd (none_in y i)
  behind-plain (at constants h) y i =
      append-within Plain (named_from (word s constants h) 0 (layout s constants h)) []
      (named_in-within Plain (word s constants h) 0 (layout s constants h) (tail-holds Plain (word s constants h) 0 (body constants (word s constants h)) (tt, (tt, (tt, tt)))))
      (λ z j. absurd (none_in z j)) y i
  behind-plain (at overrides h) y i =
      append-within Plain (named_from (word s overrides h) 0 (layout s overrides h)) []
      (named_in-within Plain (word s overrides h) 0 (layout s overrides h) (tail-holds Plain (word s overrides h) 0 (body overrides (word s overrides h)) (tt, (tt, (λ _. tt, tt)))))
      (λ z j. absurd (none_in z j)) y i
  behind-plain (at globals h) y i =
      append-within Plain (named_from (word s globals h) 0 (layout s globals h)) []
      (named_in-within Plain (word s globals h) 0 (layout s globals h) (tail-holds Plain (word s globals h) 0 (body globals (word s globals h)) (tt, (λ _. tt, tt))))
      (λ z j. absurd (none_in z j)) y i
  behind-plain (at expressions h) y i = absurd (none_in y i)

  plain-behind : (x y : Elem) → Plain x → y ∈ behind s x → ⊥
  unfolding behind
  plain-behind (at types h) y p i = none_in y i
  plain-behind (at constants h) y p i = p
  plain-behind (at overrides h) y p i = p
  plain-behind (at globals h) y p i = p
  plain-behind (at expressions h) y p i = none_in y i

  -- with each constant, override and global, its type and init
  abbrev Solid : List Elem → Type 0
  Solid m = (x y : Elem) → x ∈ m → y ∈ behind s x → y ∈ m

  touched-solid : (xs : List Elem) → Solid (with_behind s xs)
  touched-solid xs x y h b =
      ⊎_elim (λ i. touched-behind s x y xs i b) (λ q. absurd (plain-behind x y (behind-plain q.front x q.is-behind) b))
      (touched-cases s x xs h)

  visit-solid : (m : List Elem) (z : Elem) → Solid m → Solid (visit s m z)
  visit-solid m z so x y h b =
      ⊎_elim (λ i. visit-old s m z y (so x y i b)) (λ n. visit-new s m z y n.0 (touched-solid (references s z) x y n.1 b))
      (visit-cases s m z x h)

  sweep-solid : (l m : List Elem) → Solid m → Solid (sweep s l m)
  unfolding sweep
  sweep-solid [] m so = so
  sweep-solid (z ∷ l) m so = sweep-solid l (visit s m z) (visit-solid m z so)

  -- ---- every handle lies inside

  abbrev pub Inside : Elem → Type 0
  Inside x = T (inside s x)

  pub slot-inside : (l : Slot) (w : ℕ) → T (held s l w) → SlotHolds Inside l w
  unfolding held
  slot-inside unused w t = tt
  slot-inside free w t = tt
  slot-inside (below n) w t = tt
  slot-inside (must a) w t = t
  slot-inside (may a) w t = λ n. go (eqb w N) (eqb-true w N) t n
    where
      go : (b : Bool) → (b ≡ true → w ≡ N) → T (cond b true (inside s (at a w))) → (w ≡ N → ⊥) → Inside (at a w)
      go true q u n = absurd (n (q refl))
      go false q u n = u
  slot-inside start w t = tt
  slot-inside count w t = tt

  pub slots-inside : (f : ℕ → ℕ) (k : ℕ) (ls : List Slot) → T (every (held s) f k ls) → EachSlot Inside f k ls
  unfolding every
  slots-inside f k [] t = tt
  slots-inside f k (l ∷ ls) t = (
    slot-inside l (f k) (and_left (held s l (f k)) (every (held s) f (suc k) ls) t),
    slots-inside f (suc k) ls (and_right (held s l (f k)) (every (held s) f (suc k) ls) t),
  )

  run_inside : (a : Arena) (ws : Words) → T (all (λ w. inside s (at a w)) ws) → Within (map (at a) ws) Inside
  unfolding all
  run_inside a [] t y i = absurd (none_in y i)
  run_inside a (w ∷ ws) t y i =
      ⊎_elim (λ e. subst Inside (sym e) (and_left (inside s (at a w)) (all (λ w. inside s (at a w)) ws) t))
      (λ j. run_inside a ws (and_right (inside s (at a w)) (all (λ w. inside s (at a w)) ws) t) y j)
      (cons-cases y (at a w) (map (at a) ws) i)

  pub inside-lt : (a : Arena) (h : ℕ) → Inside (at a h) → h < size s a
  unfolding inside
  inside-lt a h t = ltb→lt h (size s a) t

  pub lt-inside : (a : Arena) (h : ℕ) → h < size s a → Inside (at a h)
  unfolding inside
  lt-inside a h t = lt→ltb h (size s a) t

  pub inside-closed : Sound s → Closed s Inside
  unfolding references held_at
  inside-closed c (at a h) y i r =
      let t : T (held_at s a h) = c.holds a h (inside-lt a h i) in
      append-within Inside (named_from (word s a h) 0 (layout s a h)) (map (at a) (run s a h))
      (named_in-within Inside (word s a h) 0 (layout s a h)
      (slots-inside (word s a h) 0 (layout s a h)
      (and_left (every (held s) (word s a h) 0 (layout s a h)) (all (λ w. inside s (at a w)) (run s a h)) t)))
      (run_inside a (run s a h)
      (and_right (every (held s) (word s a h) 0 (layout s a h)) (all (λ w. inside s (at a w)) (run s a h)) t))
      y r

  -- ---- the roots lie inside

  pub count-below : (i n k : ℕ) → i + n ≤ k → Each (λ j. j < k) (count_up i n)
  unfolding count_up
  count-below i zero k h = tt
  count-below i (suc n) k h = (omega arith, count-below (suc i) n k (omega arith))

  select-each : (P : ℕ → Type 0) (p : ℕ → Bool) (l : List ℕ) → Each P l → Each P (select p l)
  unfolding select
  select-each P p [] e = tt
  select-each P p (i ∷ l) e = go (p i) (select-each P p l e.1)
    where
      go : (b : Bool) → Each P (select p l) → Each P (cond b (i ∷ select p l) (select p l))
      go true r = (e.0, r)
      go false r = r

  pub each_map : (P Q : ℕ → Type 0) (l : List ℕ) → ((i : ℕ) → P i → Q i) → Each P l → Each Q l
  each_map P Q [] f e = tt
  each_map P Q (i ∷ l) f e = (f i e.0, each_map P Q l f e.1)

  those-inside : (a : Arena) (p : ℕ → Bool) → Within (those s a p) Inside
  unfolding those
  those-inside a p =
      map-within Inside (at a) (select p (count_up 0 (size s a)))
      (select-each (λ i. Inside (at a i)) p (count_up 0 (size s a))
      (each_map (λ i. i < size s a) (λ i. Inside (at a i)) (count_up 0 (size s a)) (lt-inside a) (count-below 0 (size s a) (size s a) (omega arith))))

  none_within : (P : Elem → Type 0) → Within [] P
  none_within P y h = absurd (none_in y h)

  more-inside : (keep : Bool) → Within (more_roots s keep) Inside
  unfolding more_roots
  more-inside true = append-within Inside _ _ (append-within Inside _ _ (those-inside globals always) (those-inside overrides (named_override s))) (those-inside types (is_named s))
  more-inside false = none_within Inside

  pub roots-inside : Sound s → (keep : Bool) → Within (roots s keep) Inside
  unfolding roots common_roots
  roots-inside c keep =
      append-within Inside _ _
      (append-within Inside _ _
      (map-within Inside (mention s) (count_up 0 (mention_count s))
      (each_map (λ i. i < mention_count s) (λ i. Inside (mention s i)) (count_up 0 (mention_count s)) c.mentions (count-below 0 (mention_count s) (mention_count s) (omega arith))))
      (those-inside constants (root_constant s)))
      (more-inside keep)

  -- ---- what is visited

  order-plain : Within (order s) Plain
  unfolding order
  order-plain x h = go x (visits-among s (size s types) (size s expressions) x h)
    where
      go : (x : Elem) → Among s (size s types) 0 (size s expressions) x → Plain x
      go (at types u) a = tt
      go (at constants u) a = a
      go (at overrides u) a = a
      go (at globals u) a = a
      go (at expressions u) a = tt

  order-all : (x : Elem) → Plain x → Inside x → x ∈ order s
  unfolding order
  order-all (at types u) p i = visits-types s (size s types) (size s expressions) u (inside-lt types u i)
  order-all (at constants u) p i = absurd p
  order-all (at overrides u) p i = absurd p
  order-all (at globals u) p i = absurd p
  order-all (at expressions u) p i = visits-expressions s (size s types) (size s expressions) u (inside-lt expressions u i)

  -- ---- a referrer is visited before what it refers to

  -- what the type t may name: types, and the override that sizes it
  abbrev TypeRef : ℕ → Elem → Type 0
  TypeRef t (at types u) = Unit {0}
  TypeRef t (at constants u) = ⊥
  TypeRef t (at overrides o) = (word s types t 0 ≡ 2) × (o ≡ word s types t 3)
  TypeRef t (at globals u) = ⊥
  TypeRef t (at expressions u) = ⊥

  type-slots : (t k : ℕ) → word s types t 0 ≡ k → EachSlot (TypeRef t) (word s types t) 0 (type_body k)
  unfolding type_body type_slots fill
  type-slots t zero e = (tt, (tt, (tt, (tt, tt))))
  type-slots t (suc zero) e = (tt, (tt, (tt, (tt, tt))))
  type-slots t (suc (suc zero)) e = (tt, (tt, (tt, ((e, refl), tt))))
  type-slots t (suc (suc (suc zero))) e = (tt, (tt, (tt, (tt, tt))))
  type-slots t (suc (suc (suc (suc k)))) e = (tt, (tt, (tt, (tt, tt))))

  types-within : (t : ℕ) (ws : Words) → Within (map (at types) ws) (TypeRef t)
  types-within t [] y h = absurd (none_in y h)
  types-within t (w ∷ ws) y h =
      ⊎_elim (λ e. subst (TypeRef t) (sym e) tt) (λ i. types-within t ws y i) (cons-cases y (at types w) (map (at types) ws) h)

  type-refs : (t : ℕ) → Within (references s (at types t)) (TypeRef t)
  unfolding references layout slots body
  type-refs t =
      append-within (TypeRef t) _ (map (at types) (run s types t))
      (named_in-within (TypeRef t) (word s types t) 0 _ (tail-holds (TypeRef t) (word s types t) 0 (type_body (word s types t 0)) (type-slots t (word s types t 0) refl)))
      (types-within t (run s types t))

  abbrev InitRef : ℕ → Elem → Type 0
  InitRef o (at types u) = Unit {0}
  InitRef o (at constants u) = Unit {0}
  InitRef o (at overrides u) = Unit {0}
  InitRef o (at globals u) = Unit {0}
  InitRef o (at expressions i) = (i ≡ word s overrides o 2) × (word s overrides o 2 ≡ N → ⊥)

  override-refs : (o : ℕ) → Within (behind s (at overrides o)) (InitRef o)
  unfolding behind references layout slots run span has_run body type_body expr_body
  override-refs o =
      append-within (InitRef o) (named_from (word s overrides o) 0 (layout s overrides o)) []
      (named_in-within (InitRef o) (word s overrides o) 0 (layout s overrides o) (tail-holds (InitRef o) (word s overrides o) 0 (body overrides (word s overrides o)) (tt, (tt, (λ n. (refl, n), tt)))))
      (none_within (InitRef o))

  pub sized_past : (t : ℕ) → sized_by s t ≤ past_dep s t
  unfolding past_dep
  sized_past zero = le_refl (sized_by s zero)
  sized_past (suc t) = omega arith

  sized : (t i : ℕ) → word s types t 0 ≡ 2 → i ≡ word s overrides (word s types t 3) 2 → (word s overrides (word s types t 3) 2 ≡ N → ⊥) → i < sized_by s t
  unfolding sized_by one_past
  sized t i k e n = rw (eq-eqb (word s types t 0) 2 k, ne_eqb (word s overrides (word s types t 3) 2) N n) (omega arith)

  type-init : (t i : ℕ) → at expressions i ∈ reached s (at types t) → i < past_dep s t
  type-init t i h =
      ⊎_elim (λ m. absurd (type-refs t (at expressions i) m))
      (λ b. go b.front (type-refs t b.front b.front-in) b.is-behind)
      (touched-cases s (at expressions i) (references s (at types t)) h)
    where
      over : (o : ℕ) → word s types t 0 ≡ 2 → o ≡ word s types t 3 → InitRef o (at expressions i) → i < past_dep s t
      over o k e r =
          let q : InitRef (word s types t 3) (at expressions i) = subst (λ j. InitRef j (at expressions i)) e r in
          le_trans (sized t i k q.0 q.1) (sized_past t)

      go : (z : Elem) → TypeRef t z → at expressions i ∈ behind s z → i < past_dep s t
      go (at types u) r m = absurd (plain-behind (at types u) (at expressions i) tt m)
      go (at constants u) r m = absurd r
      go (at overrides o) r m = over o r.0 r.1 (override-refs o (at expressions i) m)
      go (at globals u) r m = absurd r
      go (at expressions u) r m = absurd r

  pub all-within : (f : Elem → Bool) (l : List Elem) → T (all f l) → Within l (λ y. T (f y))
  unfolding all
  all-within f [] t y h = absurd (none_in y h)
  all-within f (x ∷ l) t y h =
      ⊎_elim (λ e. subst (λ z. T (f z)) (sym e) (and_left (f x) (all f l) t))
      (λ i. all-within f l (and_right (f x) (all f l) t) y i)
      (cons-cases y x l h)

  -- the types and expressions of a set are well ordered
  abbrev pub OrderedOn : List Elem → Type 0
  OrderedOn m = (a : Arena) (h : ℕ) → Plain (at a h) → at a h ∈ m → T (well_ordered s a h)

  ordered : (m : List Elem) → OrderedOn m → (x y : Elem) → x ∈ m → Plain x → Plain y → y ∈ reached s x → Before s x y
  unfolding well_ordered later
  ordered m o (at types t) (at types u) i p q r = ltb→lt u t (all-within (later s (at types t)) (reached s (at types t)) (o types t p i) (at types u) r)
  ordered m o (at types t) (at constants u) i p q r = absurd q
  ordered m o (at types t) (at overrides u) i p q r = absurd q
  ordered m o (at types t) (at globals u) i p q r = absurd q
  ordered m o (at types t) (at expressions u) i p q r = type-init t u r
  ordered m o (at constants t) y i p q r = absurd p
  ordered m o (at overrides t) y i p q r = absurd p
  ordered m o (at globals t) y i p q r = absurd p
  ordered m o (at expressions e) (at types u) i p q r =
      leb→le (past_dep s u) e (all-within (later s (at expressions e)) (reached s (at expressions e)) (o expressions e p i) (at types u) r)
  ordered m o (at expressions e) (at constants u) i p q r = absurd q
  ordered m o (at expressions e) (at overrides u) i p q r = absurd q
  ordered m o (at expressions e) (at globals u) i p q r = absurd q
  ordered m o (at expressions e) (at expressions u) i p q r =
      ltb→lt u e (all-within (later s (at expressions e)) (reached s (at expressions e)) (o expressions e p i) (at expressions u) r)

  -- check 7 asks it of all
  pub all-ordered : Accepted s → (m : List Elem) → Within m Inside → OrderedOn m
  all-ordered c m w types h p i = c.type-order h (inside-lt types h (w (at types h) i))
  all-ordered c m w constants h p i = absurd p
  all-ordered c m w overrides h p i = absurd p
  all-ordered c m w globals h p i = absurd p
  all-ordered c m w expressions h p i = c.expression-order h (inside-lt expressions h (w (at expressions h) i))

  order-sorted : Sorted (Before s) (order s)
  unfolding order
  order-sorted = visits-sorted s (size s types) (size s expressions)

  -- ---- demand 3, from any roots: the smallest set

  module _ (rs : List Elem) where
    -- it holds the roots
    pub from-roots : Within rs (λ x. x ∈ kept_from s rs)
    unfolding kept_from
    from-roots x h = sweep-old s (order s) (with_behind s rs) x (touched-self s x rs h)

    -- and lies inside every closed set that does
    pub from-least : (S : Elem → Type 0) → Closed s S → Within rs S → Within (kept_from s rs) S
    unfolding kept_from
    from-least S closed w = sweep-within s S closed (order s) (with_behind s rs) (touched-within s S closed rs w)

    -- as the module is
    pub from-inside : Sound s → Within rs Inside → Within (kept_from s rs) Inside
    from-inside c w = from-least Inside (inside-closed c) w

    from-solid : Solid (kept_from s rs)
    unfolding kept_from
    from-solid = sweep-solid (order s) (with_behind s rs) (touched-solid rs)

    module _ (c : Sound s) (w : Within rs Inside) (o : OrderedOn (kept_from s rs)) where
      from-visited : (x y : Elem) → Plain x → x ∈ kept_from s rs → y ∈ references s x → y ∈ kept_from s rs
      unfolding kept_from
      from-visited x y p h r =
          sweep-closed s (λ z. z ∈ kept_from s rs) Plain (Before s) (asym s) (ordered (kept_from s rs) o) (order s) (with_behind s rs) (λ z i. i) order-plain order-sorted
          x y (order-all x p (from-inside c w x h)) h (touched-self s y (references s x) r)

      -- with all that its members refer to
      pub from-closed : Closed s (λ x. x ∈ kept_from s rs)
      unfolding behind
      from-closed (at types h) y i r = from-visited (at types h) y tt i r
      from-closed (at constants h) y i r = from-solid (at constants h) y i r
      from-closed (at overrides h) y i r = from-solid (at overrides h) y i r
      from-closed (at globals h) y i r = from-solid (at globals h) y i r
      from-closed (at expressions h) y i r = from-visited (at expressions h) y tt i r

  -- more roots keep no less
  pub from_more : (rs rs' : List Elem) → Within rs (λ x. x ∈ rs') → Within (kept_from s rs) (λ x. x ∈ kept_from s rs')
  unfolding kept_from
  from_more rs rs' w = sweep-more s (order s) (with_behind s rs) (with_behind s rs') (touched-more s rs rs' w)

  -- from a module's own roots
  pub kept-inside : Sound s → (keep : Bool) → Within (kept s keep) Inside
  kept-inside c keep = from-inside (roots s keep) c (roots-inside c keep)
