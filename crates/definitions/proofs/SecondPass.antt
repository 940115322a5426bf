-- Demand 3, the second pass, from any roots that hold those of the first: it is accepted and drops nothing.
-- Assumes nothing.
use mathlib.Core.Path.{◌≡◌, refl, sym, subst}
use mathlib.Core.Bool.{Bool, true, false, cond}
use mathlib.Core.Logic.{⊎_elim}
use mathlib.Core.List.{List, [], ◌∷◌, ◌++◌, map}
use Prim.Native.Nat.{ℕ, zero, suc, ◌+◌, ◌≤◌, ◌<◌, zero-le}
use native.Mathlib.Nat.{eq-or-lt_of_le, zero-add}
use native.Mathlib.Omega.{arith}
use lib.Dec.{T, lit<}
use Rattle.definitions.specs.Lists.{always, count_up, select}
use Rattle.definitions.specs.Areas.{Areas, Arena, Elem, at, constants, globals, mention_count, overrides, size, types, width, word}
use Rattle.definitions.specs.Slots.{body, type_body, expr_body, below, layout, slots}
use Rattle.definitions.specs.References.{references}
use Rattle.definitions.specs.Roots.{common_roots, is_abstract, is_named, mention, more_roots, named_override, root_constant, roots, those}
use Rattle.definitions.specs.Sweep.{kept_from}
use Rattle.definitions.specs.Numbering.{is_kept, moved, rank}
use Rattle.definitions.specs.Records.{adjusted}
use Rattle.definitions.proofs.Least.{◌∈◌, Within, map-within, Closed, here, there, cons-cases, none_in, append_left, append_right, append_cases}
use Rattle.definitions.proofs.Accepted.{Sound, Accepted}
use Rattle.definitions.proofs.Kept.{Inside, inside-lt, each_map, count-below, OrderedOn, all-ordered, from-roots, from-inside, from-closed, from-least}
use Rattle.definitions.proofs.Places.{new-kept, rank_below, no_gap}
use Rattle.definitions.proofs.Reading.{after, size-after, word_after, word-stays, moved-refers}
use Rattle.definitions.proofs.AcceptedAfter.{moved-kept, kept-slots, mention_count-after, mention-after, accepted-after}

in_map : (f : Elem → Elem) (x : Elem) (l : List Elem) → x ∈ l → f x ∈ map f l
in_map f x [] h = absurd (none_in x h)
in_map f x (y ∷ l) h =
    ⊎_elim (λ e. subst (λ z. f x ∈ f z ∷ map f l) e (here (f x) (map f l))) (λ i. there (f x) (f y) (map f l) (in_map f x l i)) (cons-cases x y l h)

-- ---- those that pass

record Those (s : Areas) (a : Arena) (p : ℕ → Bool) (x : Elem) : Type 0 where
  which : ℕ
  which-lt : which < size s a
  which-passes : T (p which)
  is-which : x ≡ at a which

select-cases : (s : Areas) (a : Arena) (p : ℕ → Bool) (i n : ℕ) → i + n ≤ size s a → Within (map (at a) (select p (count_up i n))) (Those s a p)
unfolding select count_up
select-cases s a p i zero l x h = absurd (none_in x h)
select-cases s a p i (suc n) l x h = go (p i) refl h (select-cases s a p (suc i) n (omega arith) x)
  where
    go : (b : Bool) → p i ≡ b → x ∈ map (at a) (cond b (i ∷ select p (count_up (suc i) n)) (select p (count_up (suc i) n)))
        → (x ∈ map (at a) (select p (count_up (suc i) n)) → Those s a p x) → Those s a p x
    go true e q f =
        ⊎_elim (λ w. record { which = i; which-lt = omega arith; which-passes = subst T (sym e) tt; is-which = w }) f
        (cons-cases x (at a i) (map (at a) (select p (count_up (suc i) n))) q)
    go false e q f = f q

those-cases : (s : Areas) (a : Arena) (p : ℕ → Bool) → Within (those s a p) (Those s a p)
unfolding those
those-cases s a p = select-cases s a p 0 (size s a) (omega arith)

select_in : (a : Arena) (p : ℕ → Bool) (i n h : ℕ) → i ≤ h → h < i + n → T (p h) → at a h ∈ map (at a) (select p (count_up i n))
unfolding select count_up
select_in a p i zero h b l t = absurd (omega arith)
select_in a p i (suc n) h b l t = ⊎_elim (λ e. first e) (λ q. later q (select_in a p (suc i) n h q (omega arith) t)) (eq-or-lt_of_le b)
  where
    first : i ≡ h → at a h ∈ map (at a) (cond (p i) (i ∷ select p (count_up (suc i) n)) (select p (count_up (suc i) n)))
    first e = go (p i) (subst (λ k. T (p k)) (sym e) t)
      where
        go : (d : Bool) → T d → at a h ∈ map (at a) (cond d (i ∷ select p (count_up (suc i) n)) (select p (count_up (suc i) n)))
        go true u = subst (λ k. at a h ∈ at a k ∷ map (at a) (select p (count_up (suc i) n))) (sym e) (here (at a h) _)
        go false u = absurd u

    later : i < h → at a h ∈ map (at a) (select p (count_up (suc i) n)) → at a h ∈ map (at a) (cond (p i) (i ∷ select p (count_up (suc i) n)) (select p (count_up (suc i) n)))
    later q r = go (p i)
      where
        go : (d : Bool) → at a h ∈ map (at a) (cond d (i ∷ select p (count_up (suc i) n)) (select p (count_up (suc i) n)))
        go true = there (at a h) (at a i) (map (at a) (select p (count_up (suc i) n))) r
        go false = r

those-in : (s : Areas) (a : Arena) (p : ℕ → Bool) (h : ℕ) → h < size s a → T (p h) → at a h ∈ those s a p
unfolding those
those-in s a p h l t = select_in a p 0 (size s a) h zero-le (subst (λ n. h < n) (sym (zero-add (size s a))) l) t

-- ---- mentions

count-map-in : (f : ℕ → Elem) (i n h : ℕ) → i ≤ h → h < i + n → f h ∈ map f (count_up i n)
unfolding count_up
count-map-in f i zero h b l = absurd (omega arith)
count-map-in f i (suc n) h b l =
    ⊎_elim (λ e. subst (λ k. f h ∈ f k ∷ map f (count_up (suc i) n)) (sym e) (here (f h) _))
    (λ q. there (f h) (f i) (map f (count_up (suc i) n)) (count-map-in f (suc i) n h q (omega arith)))
    (eq-or-lt_of_le b)

pub mentions-in-roots : (s : Areas) (keep : Bool) (h : ℕ) → h < mention_count s → mention s h ∈ roots s keep
unfolding roots common_roots
mentions-in-roots s keep h l =
    append_left (mention s h) _ _
    (append_left (mention s h) (map (mention s) (count_up 0 (mention_count s))) _
    (count-map-in (mention s) 0 (mention_count s) h zero-le (subst (λ n. h < n) (sym (zero-add (mention_count s))) l)))

-- ---- the roots of a module, after a pass that keeps a closed set

module _ (s : Areas) (m : List Elem) (c : Sound s) (ins : Within m (Inside s)) (clo : Closed s (λ x. x ∈ m)) where
  lt-kept : (a : Arena) (h : ℕ) → at a h ∈ m → h < size s a
  lt-kept a h i = inside-lt s a h (ins (at a h) i)

  new-lt : (a : Arena) (h : ℕ) → at a h ∈ m → rank (is_kept m a) h < size (after s m) a
  new-lt a h i = rw (size-after s m a) (rank_below m a h (size s a) i (lt-kept a h i))

  flags-after : (h : ℕ) → at types h ∈ m → word (after s m) types (rank (is_kept m types) h) 1 ≡ word s types h 1
  unfolding width layout slots adjusted body type_body expr_body
  flags-after h i = word-stays s m types h i (lt-kept types h i) 1 (lit< tt) (below 4) refl refl

  -- those that pass at their old place pass at their new
  those-after : (a : Arena) (p q : ℕ → Bool) → ((h : ℕ) → at a h ∈ m → T (p h) → T (q (rank (is_kept m a) h)))
      → (x : Elem) → x ∈ m → x ∈ those s a p → moved m x ∈ those (after s m) a q
  those-after a p q f x i t =
      let r = those-cases s a p x t in
      let j : at a r.which ∈ m = subst (λ y. y ∈ m) r.is-which i in
      subst (λ y. moved m y ∈ those (after s m) a q) (sym r.is-which)
      (rw (moved-kept s m c ins clo a r.which j)
      (those-in (after s m) a q (rank (is_kept m a) r.which) (new-lt a r.which j) (f r.which j r.which-passes)))

  constants-after : (h : ℕ) → at constants h ∈ m → T (root_constant s h) → T (root_constant (after s m) (rank (is_kept m constants) h))
  unfolding root_constant is_abstract width layout slots adjusted body type_body expr_body
  constants-after h i t =
      let l = lt-kept constants h i in
      let it : at types (word s constants h 1) ∈ m = (kept-slots s m c ins clo constants h i).1.0 in
      rw (
        word-stays s m constants h i l 0 (lit< tt) (below 2) refl refl,
        word_after s m constants h 1 i l (lit< tt),
        new-kept m types (word s constants h 1) it,
        flags-after (word s constants h 1) it,
      ) t

  overrides-after : (h : ℕ) → at overrides h ∈ m → T (named_override s h) → T (named_override (after s m) (rank (is_kept m overrides) h))
  unfolding named_override width layout slots adjusted body type_body expr_body
  overrides-after h i t = rw (word-stays s m overrides h i (lt-kept overrides h i) 0 (lit< tt) (below 2) refl refl) t

  types-after : (h : ℕ) → at types h ∈ m → T (is_named s h) → T (is_named (after s m) (rank (is_kept m types) h))
  unfolding is_named
  types-after h i t = rw (flags-after h i) t

  more-after : (k : Bool) (x : Elem) → x ∈ m → x ∈ more_roots s k → moved m x ∈ more_roots (after s m) k
  unfolding more_roots
  more-after true x i t =
      ⊎_elim
      (λ u. append_left (moved m x) (those (after s m) globals always ++ those (after s m) overrides (named_override (after s m))) _ (⊎_elim
      (λ g. append_left (moved m x) (those (after s m) globals always) _ (those-after globals always always (λ h j p. tt) x i g))
      (λ o. append_right (moved m x) (those (after s m) globals always) _ (those-after overrides (named_override s) (named_override (after s m)) overrides-after x i o))
      (append_cases x (those s globals always) (those s overrides (named_override s)) u)))
      (λ u. append_right (moved m x) (those (after s m) globals always ++ those (after s m) overrides (named_override (after s m))) _ (those-after types (is_named s) (is_named (after s m)) types-after x i u))
      (append_cases x (those s globals always ++ those s overrides (named_override s)) (those s types (is_named s)) t)
  more-after false x i t = absurd (none_in x t)

  mention-root : (x : Elem) → x ∈ map (mention s) (count_up 0 (mention_count s)) → moved m x ∈ map (mention (after s m)) (count_up 0 (mention_count (after s m)))
  mention-root =
      map-within (λ x. moved m x ∈ map (mention (after s m)) (count_up 0 (mention_count (after s m)))) (mention s) (count_up 0 (mention_count s))
      (each_map s (λ h. h < mention_count s) (λ h. moved m (mention s h) ∈ map (mention (after s m)) (count_up 0 (mention_count (after s m)))) (count_up 0 (mention_count s))
      (λ h l.
      subst (λ y. y ∈ map (mention (after s m)) (count_up 0 (mention_count (after s m)))) (mention-after s m c ins clo h l)
      (count-map-in (mention (after s m)) 0 (mention_count (after s m)) h zero-le (rw (zero-add, mention_count-after s m c ins clo) l)))
      (count-below s 0 (mention_count s) (mention_count s) (omega arith)))

  -- a root that is kept stays a root
  pub roots-after : (keep : Bool) (x : Elem) → x ∈ m → x ∈ roots s keep → moved m x ∈ roots (after s m) keep
  unfolding roots common_roots
  roots-after keep x i t =
      ⊎_elim
      (λ u. append_left (moved m x) (map (mention (after s m)) (count_up 0 (mention_count (after s m))) ++ those (after s m) constants (root_constant (after s m))) _ (⊎_elim
      (λ q. append_left (moved m x) (map (mention (after s m)) (count_up 0 (mention_count (after s m)))) _ (mention-root x q))
      (λ q. append_right (moved m x) (map (mention (after s m)) (count_up 0 (mention_count (after s m)))) _ (those-after constants (root_constant s) (root_constant (after s m)) constants-after x i q))
      (append_cases x (map (mention s) (count_up 0 (mention_count s))) (those s constants (root_constant s)) u)))
      (λ u. append_right (moved m x) (map (mention (after s m)) (count_up 0 (mention_count (after s m))) ++ those (after s m) constants (root_constant (after s m))) _ (more-after keep x i u))
      (append_cases x (map (mention s) (count_up 0 (mention_count s)) ++ those s constants (root_constant s)) (more_roots s keep) t)

-- ---- the second pass

-- the first from roots that hold the mentions, or keep them
module _
    (s : Areas) (c : Sound s) (rs : List Elem) (w : Within rs (Inside s)) (o : OrderedOn s (kept_from s rs))
    (mentioned : (h : ℕ) → h < mention_count s → mention s h ∈ kept_from s rs)
  where
    abbrev m : List Elem
    m = kept_from s rs

    abbrev ins : Within m (Inside s)
    ins = from-inside s rs c w

    abbrev clo : Closed s (λ x. x ∈ m)
    clo = from-closed s rs c w o

    -- what was kept is a module that the check accepts
    pub accepted-again : Accepted (after s m)
    accepted-again = accepted-after s m c ins clo o mentioned

    -- the second from roots that hold those of the first, moved
    module _ (rs' : List Elem) (w' : Within rs' (Inside (after s m))) (again : (x : Elem) → x ∈ rs → moved m x ∈ rs') where
      inside-again : Within (kept_from (after s m) rs') (Inside (after s m))
      inside-again = from-inside (after s m) rs' accepted-again.sound w'

      closed-again : Closed (after s m) (λ x. x ∈ kept_from (after s m) rs')
      closed-again = from-closed (after s m) rs' accepted-again.sound w' (all-ordered (after s m) accepted-again (kept_from (after s m) rs') inside-again)

      moved-again : (x : Elem) → x ∈ m → moved m x ∈ kept_from (after s m) rs'
      moved-again x i = (from-least s rs (λ y. (y ∈ m) × (moved m y ∈ kept_from (after s m) rs')) step base x i).1
        where
          step : Closed s (λ y. (y ∈ m) × (moved m y ∈ kept_from (after s m) rs'))
          step x y p r = (
            clo x y p.0 r,
            closed-again (moved m x) (moved m y) p.1 (rw (moved-refers s m c ins clo x p.0) (in_map (moved m) y (references s x) r)),
          )

          base : Within rs (λ y. (y ∈ m) × (moved m y ∈ kept_from (after s m) rs'))
          base y r = (from-roots s rs y r, from-roots (after s m) rs' (moved m y) (again y r))

      -- it drops nothing
      pub drops-nothing : (x : Elem) → Inside (after s m) x → x ∈ kept_from (after s m) rs'
      drops-nothing (at a r) i =
          let q = no_gap m a (size s a) r (subst (λ n. r < n) (size-after s m a) (inside-lt (after s m) a r i)) in
          subst (λ j. at a j ∈ kept_from (after s m) rs') q.from-rank
          (rw (moved-kept s m c ins clo a q.from q.from-kept) at (moved-again (at a q.from) q.from-kept))
