-- The sweep keeps the least set that holds the roots and all that its members refer to: what does not look at how records are read.
-- Assumes nothing.
use mathlib.Core.Path.{◌≡◌, refl, sym, ap, ap₂, subst, ◌∙◌}
use mathlib.Core.Bool.{Bool, true, false, ◌&&◌, ◌||◌, cond}
use mathlib.Core.Logic.{◌⊎◌, inl, inr, ⊎_elim}
use mathlib.Core.List.{List, [], ◌∷◌, ◌++◌, map}
use lib.Dec.{T, eqb, eqb→eq, eqb_refl}
use Rattle.definitions.specs.Areas.{Areas, Arena, Elem, at, constants, expressions, globals, area_number, numbered, overrides, same, types}
use Rattle.definitions.specs.References.{references}
use Rattle.definitions.specs.Order.{behind, with_behind}
use Rattle.definitions.specs.Sweep.{has, sweep, visit}

infix 40 ◌∈◌
abbrev pub ◌∈◌ : Elem → List Elem → Type 0
x ∈ l = T (has l x)

-- ---- tests

pub or_cases : (a b : Bool) → T (a || b) → T a ⊎ T b
or_cases true b t = inl tt
or_cases false b t = inr t

pub or_left : (a b : Bool) → T a → T (a || b)
or_left true b t = tt
or_left false b t = absurd t

pub or_right : (a b : Bool) → T b → T (a || b)
or_right true b t = tt
or_right false b t = t

pub and_left : (a b : Bool) → T (a && b) → T a
and_left true b t = tt
and_left false b t = t

pub and_right : (a b : Bool) → T (a && b) → T b
and_right true b t = t
and_right false b t = absurd t

pub both : (p q : Bool) → T p → T q → T (p && q)
both true q t u = u
both false q t u = t

-- ---- elements

-- an arena is the one of its area number
pub numbered-number : (a : Arena) → numbered (area_number a) ≡ a
unfolding numbered area_number
numbered-number types = refl
numbered-number constants = refl
numbered-number overrides = refl
numbered-number globals = refl
numbered-number expressions = refl

number-eq : (a b : Arena) → T (eqb (area_number a) (area_number b)) → a ≡ b
number-eq a b t = sym (numbered-number a) ∙ ap numbered (eqb→eq (area_number a) (area_number b) t) ∙ numbered-number b

pub same-eq : (x y : Elem) → T (same x y) → x ≡ y
unfolding same
same-eq (at a h) (at b k) t =
    ap₂ at (number-eq a b (and_left (eqb (area_number a) (area_number b)) (eqb h k) t)) (eqb→eq h k (and_right (eqb (area_number a) (area_number b)) (eqb h k) t))

pub same_refl : (x : Elem) → T (same x x)
unfolding same
same_refl (at a h) = both (eqb (area_number a) (area_number a)) (eqb h h) (eqb_refl (area_number a)) (eqb_refl h)

-- ---- membership

pub here : (x : Elem) (l : List Elem) → x ∈ x ∷ l
unfolding has
here x l = or_left (same x x) (has l x) (same_refl x)

pub there : (x y : Elem) (l : List Elem) → x ∈ l → x ∈ y ∷ l
unfolding has
there x y l h = or_right (same x y) (has l x) h

pub cons-cases : (x y : Elem) (l : List Elem) → x ∈ y ∷ l → (x ≡ y) ⊎ (x ∈ l)
unfolding has
cons-cases x y l h = ⊎_elim (λ t. inl (same-eq x y t)) (λ t. inr t) (or_cases (same x y) (has l x) h)

pub none_in : (x : Elem) → x ∈ [] → ⊥
unfolding has
none_in x h = h

pub append_left : (x : Elem) (l m : List Elem) → x ∈ l → x ∈ l ++ m
unfolding has
append_left x [] m h = absurd h
append_left x (y ∷ l) m h =
    ⊎_elim (λ t. or_left (same x y) _ t) (λ t. or_right (same x y) _ (append_left x l m t)) (or_cases (same x y) (has l x) h)

pub append_right : (x : Elem) (l m : List Elem) → x ∈ m → x ∈ l ++ m
unfolding has
append_right x [] m h = h
append_right x (y ∷ l) m h = or_right (same x y) _ (append_right x l m h)

pub append_cases : (x : Elem) (l m : List Elem) → x ∈ l ++ m → (x ∈ l) ⊎ (x ∈ m)
unfolding has
append_cases x [] m h = inr h
append_cases x (y ∷ l) m h =
    ⊎_elim (λ t. inl (or_left (same x y) _ t))
    (λ t. ⊎_elim (λ u. inl (or_right (same x y) _ u)) (λ u. inr u) (append_cases x l m t))
    (or_cases (same x y) (has (l ++ m) x) h)

-- the list lies inside a set
abbrev pub Within : List Elem → (Elem → Type 0) → Type 0
Within l S = (x : Elem) → x ∈ l → S x

-- each of a list has P
abbrev pub Each : {A : Type 0} → (A → Type 0) → List A → Type 0
Each P [] = Unit {0}
Each P (x ∷ l) = P x × Each P l

pub within-each : (P : Elem → Type 0) (l : List Elem) → Within l P → Each P l
within-each P [] w = tt
within-each P (x ∷ l) w = (w x (here x l), within-each P l (λ y i. w y (there y x l i)))

-- what f of each has, all of the list under f has
pub map-within : {A : Type 0} (P : Elem → Type 0) (f : A → Elem) (l : List A) → Each (λ x. P (f x)) l → Within (map f l) P
map-within P f [] e y h = absurd (none_in y h)
map-within P f (x ∷ l) e y h =
    ⊎_elim (λ q. subst P (sym q) e.0) (λ j. map-within P f l e.1 y j) (cons-cases y (f x) (map f l) h)

-- each of the list stands, in R, before all that follow it
abbrev pub Sorted : (Elem → Elem → Type 0) → List Elem → Type 0
Sorted R [] = Unit {0}
Sorted R (x ∷ l) = Within l (R x) × Sorted R l

pub sorted-append : (R : Elem → Elem → Type 0) (l m : List Elem) → Sorted R l → Sorted R m → Within l (λ x. Within m (R x)) → Sorted R (l ++ m)
sorted-append R [] m a b c = b
sorted-append R (x ∷ l) m a b c = (
  λ y h. ⊎_elim (λ i. a.0 y i) (λ i. c x (here x l) y i) (append_cases y l m h),
  sorted-append R l m a.1 b (λ y i. c y (there y x l i)),
)

-- ---- what is marked at once

module _ (s : Areas) where
  pub touched-self : (x : Elem) (xs : List Elem) → x ∈ xs → x ∈ with_behind s xs
  unfolding with_behind
  touched-self x [] h = h
  touched-self x (y ∷ xs) h =
      ⊎_elim (λ e. subst (λ z. x ∈ z ∷ (behind s z ++ with_behind s xs)) e (here x (behind s x ++ with_behind s xs)))
      (λ m. there x y (behind s y ++ with_behind s xs) (append_right x (behind s y) (with_behind s xs) (touched-self x xs m)))
      (cons-cases x y xs h)

  pub touched-behind : (x y : Elem) (xs : List Elem) → x ∈ xs → y ∈ behind s x → y ∈ with_behind s xs
  unfolding with_behind
  touched-behind x y [] h b = absurd (none_in x h)
  touched-behind x y (z ∷ xs) h b =
      there y z (behind s z ++ with_behind s xs)
      (⊎_elim (λ e. append_left y (behind s z) (with_behind s xs) (subst (λ w. y ∈ behind s w) e b))
      (λ m. append_right y (behind s z) (with_behind s xs) (touched-behind x y xs m b))
      (cons-cases x z xs h))

  -- an element of the list with what stands behind is one of them or stands behind one
  pub record Behind (y : Elem) (xs : List Elem) : Type 0 where
    pub front : Elem
    pub front-in : front ∈ xs
    pub is-behind : y ∈ behind s front

  pub touched-cases : (y : Elem) (xs : List Elem) → y ∈ with_behind s xs → (y ∈ xs) ⊎ Behind y xs
  unfolding with_behind
  touched-cases y [] h = inl h
  touched-cases y (x ∷ xs) h =
      ⊎_elim (λ e. inl (subst (λ z. y ∈ z ∷ xs) e (here y xs)))
      (λ m.
      ⊎_elim (λ b. inr (record { front = x; front-in = here x xs; is-behind = b })) (λ u. more (touched-cases y xs u))
      (append_cases y (behind s x) (with_behind s xs) m))
      (cons-cases y x _ h)
    where
      more : (y ∈ xs) ⊎ Behind y xs → (y ∈ x ∷ xs) ⊎ Behind y (x ∷ xs)
      more (inl m) = inl (there y x xs m)
      more (inr b) = inr (record { front = b.front; front-in = there _ x xs b.front-in; is-behind = b.is-behind })

  -- all that a visit of x marks
  abbrev pub reached : Elem → List Elem
  reached x = with_behind s (references s x)

  -- ---- one visit

  pub visit-cases : (m : List Elem) (x y : Elem) → y ∈ visit s m x → (y ∈ m) ⊎ ((x ∈ m) × (y ∈ reached x))
  unfolding visit
  visit-cases m x y h = go (has m x) h
    where
      go : (b : Bool) → y ∈ cond b (reached x ++ m) m → (y ∈ m) ⊎ (T b × (y ∈ reached x))
      go true t = ⊎_elim (λ r. inr (tt, r)) (λ o. inl o) (append_cases y (reached x) m t)
      go false t = inl t

  pub visit-old : (m : List Elem) (x y : Elem) → y ∈ m → y ∈ visit s m x
  unfolding visit
  visit-old m x y h = go (has m x)
    where
      go : (b : Bool) → y ∈ cond b (reached x ++ m) m
      go true = append_right y (reached x) m h
      go false = h

  pub visit-new : (m : List Elem) (x y : Elem) → x ∈ m → y ∈ reached x → y ∈ visit s m x
  unfolding visit
  visit-new m x y h r = go (has m x) h
    where
      go : (b : Bool) → T b → y ∈ cond b (reached x ++ m) m
      go true t = append_left y (reached x) m r
      go false t = absurd t

  -- ---- the sweep

  pub sweep-old : (l m : List Elem) (y : Elem) → y ∈ m → y ∈ sweep s l m
  unfolding sweep
  sweep-old [] m y h = h
  sweep-old (x ∷ l) m y h = sweep-old l (visit s m x) y (visit-old m x y h)

  -- ---- more to start from, more in the end

  pub touched-more : (xs ys : List Elem) → Within xs (λ x. x ∈ ys) → Within (with_behind s xs) (λ x. x ∈ with_behind s ys)
  touched-more xs ys w y h =
      ⊎_elim (λ i. touched-self y ys (w y i)) (λ b. touched-behind b.front y ys (w b.front b.front-in) b.is-behind) (touched-cases y xs h)

  visit-more : (m n : List Elem) (x : Elem) → Within m (λ y. y ∈ n) → Within (visit s m x) (λ y. y ∈ visit s n x)
  visit-more m n x w y h = ⊎_elim (λ o. visit-old n x y (w y o)) (λ r. visit-new n x y (w x r.0) r.1) (visit-cases m x y h)

  pub sweep-more : (l m n : List Elem) → Within m (λ y. y ∈ n) → Within (sweep s l m) (λ y. y ∈ sweep s l n)
  unfolding sweep
  sweep-more [] m n w = w
  sweep-more (x ∷ l) m n w = sweep-more l (visit s m x) (visit s n x) (visit-more m n x w)

  -- ---- every closed set that holds the start

  -- a set that holds all that its members refer to
  abbrev pub Closed : (Elem → Type 0) → Type 0
  Closed S = (x y : Elem) → S x → y ∈ references s x → S y

  pub behind-refers : (x y : Elem) → y ∈ behind s x → y ∈ references s x
  unfolding behind
  behind-refers (at types h) y b = absurd (none_in y b)
  behind-refers (at constants h) y b = b
  behind-refers (at overrides h) y b = b
  behind-refers (at globals h) y b = b
  behind-refers (at expressions h) y b = absurd (none_in y b)

  module _ (S : Elem → Type 0) (closed : Closed S) where
    pub touched-within : (xs : List Elem) → Within xs S → Within (with_behind s xs) S
    touched-within xs w y h =
        ⊎_elim (λ m. w y m) (λ b. closed b.front y (w b.front b.front-in) (behind-refers b.front y b.is-behind))
        (touched-cases y xs h)

    pub reached-within : (x y : Elem) → S x → y ∈ reached x → S y
    reached-within x y h r = touched-within (references s x) (λ z m. closed x z h m) y r

    pub visit-within : (m : List Elem) (x : Elem) → Within m S → Within (visit s m x) S
    visit-within m x w y h =
        ⊎_elim (λ o. w y o) (λ n. reached-within x y (w x n.0) n.1) (visit-cases m x y h)

    -- (c) the sweep stays inside every closed set that holds what it starts from
    pub sweep-within : (l m : List Elem) → Within m S → Within (sweep s l m) S
    unfolding sweep
    sweep-within [] m w = w
    sweep-within (x ∷ l) m w = sweep-within l (visit s m x) (visit-within m x w)

  -- ---- what is visited in a good order

  -- S holds all that is marked in the end, Q the elements that are visited, and R is the order of visits: of two in Q, where one in S
  -- reaches the other, it stands before it
  module _
      (S Q : Elem → Type 0) (R : Elem → Elem → Type 0) (asym : (x y : Elem) → R x y → R y x → ⊥)
      (ordered : (x y : Elem) → S x → Q x → Q y → y ∈ reached x → R x y)
    where
      -- an element that no later visit may reach, and that is marked in the end, was marked before
      pub stays : (l m : List Elem) → Within (sweep s l m) S → (x : Elem) → Q x → Within l Q → Within l (R x) → x ∈ sweep s l m → x ∈ m
      unfolding sweep
      stays [] m w x q qs r h = h
      stays (z ∷ l) m w x q qs r h =
          ⊎_elim (λ o. o)
          (λ n.
          let sz : S z = w z (sweep-old l (visit s m z) z (visit-old m z z n.0)) in
          absurd (asym x z (r z (here z l)) (ordered z x sz (qs z (here z l)) q n.1)))
          (visit-cases m z x (stays l (visit s m z) w x q (λ y i. qs y (there y z l i)) (λ y i. r y (there y z l i)) h))

      -- (a) a visited element that is marked in the end has all that it reaches marked
      pub sweep-closed : (l m : List Elem) → Within (sweep s l m) S → Within l Q → Sorted R l
          → (x y : Elem) → x ∈ l → x ∈ sweep s l m → y ∈ reached x → y ∈ sweep s l m
      unfolding sweep
      sweep-closed [] m w qs so x y i h r = absurd (none_in x i)
      sweep-closed (z ∷ l) m w qs so x y i h r =
          ⊎_elim
          (λ e.
          let qz : Q z = qs z (here z l) in
          let hz : z ∈ sweep s l (visit s m z) = subst (λ u. u ∈ sweep s l (visit s m z)) e h in
          let iz : z ∈ visit s m z = stays l (visit s m z) w z qz (λ u j. qs u (there u z l j)) so.0 hz in
          let im : z ∈ m = ⊎_elim (λ o. o) (λ n. n.0) (visit-cases m z z iz) in
          sweep-old l (visit s m z) y (visit-new m z y im (subst (λ u. y ∈ reached u) e r)))
          (λ j. sweep-closed l (visit s m z) w (λ u k. qs u (there u z l k)) so.1 x y j h r)
          (cons-cases x z l i)

  -- (d) the marks after some visits, and then after more
  pub sweep-append : (l r m : List Elem) → sweep s (l ++ r) m ≡ sweep s r (sweep s l m)
  unfolding sweep
  sweep-append [] r m = refl
  sweep-append (x ∷ l) r m = sweep-append l r (visit s m x)

  -- ---- reaching

  -- what the references lead to from the roots
  pub data Reach (roots : List Elem) : Elem → Type 0 where
    root : {x : Elem} → x ∈ roots → Reach roots x
    step : {x y : Elem} → Reach roots x → y ∈ references s x → Reach roots y

  pub reach-closed : (roots : List Elem) → Closed (Reach roots)
  reach-closed roots x y h r = step h r

  -- what is marked is reached, in whatever order the visits are made
  pub sweep-reached : (roots l : List Elem) → Within (sweep s l (with_behind s roots)) (Reach roots)
  sweep-reached roots l =
      sweep-within (Reach roots) (reach-closed roots) l (with_behind s roots) (touched-within (Reach roots) (reach-closed roots) roots (λ x i. root i))

  -- where the marks are closed and hold the roots, they hold all that is reached
  pub reached-in : (roots m : List Elem) → Closed (λ x. x ∈ m) → Within roots (λ x. x ∈ m) → (x : Elem) → Reach roots x → x ∈ m
  reached-in roots m c w x (root i) = w x i
  reached-in roots m c w y (step {x} h r) = c x y (reached-in roots m c w x h) r
