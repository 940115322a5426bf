-- Laws of tests that fail, of scans, and of lists of verdicts: what the verdict says, and how early it is.
-- Assumes nothing.
use mathlib.Core.Path.{◌≡◌, refl, sym, ap, subst, ◌∙◌}
use mathlib.Core.Bool.{Bool, true, false, ◌&&◌, not, cond}
use mathlib.Core.Logic.{◌⊎◌, inl, inr, ⊎_elim}
use mathlib.Core.List.{List, [], ◌∷◌, map}
use Prim.Native.Nat.{ℕ, zero, suc, ◌+◌, ◌*◌, ◌≤◌, ◌<◌, zero-le, suc-le-suc}
use native.Mathlib.Nat.{add-zero, suc-add, add-suc, zero-add, zero-lt-suc, not-suc-le-zero, le_of_suc-le-suc, eq-or-lt_of_le}
use native.Mathlib.Omega.{arith}
use lib.Dec.{T, eqb, leb, ltb, not_T, eqb→eq, ltb→lt, leb→le, nleb→lt, nltb→le, eqb_refl}
use lib.ListN.{length, get_or}
use Rattle.definitions.specs.Lists.{all}
use Rattle.definitions.specs.Areas.{Arena, constants, each_arena, expressions, globals, area_number, overrides, types}
use Rattle.definitions.specs.Slots.{Slot, free}
use Rattle.definitions.specs.Refusals.{Verdict, accepted, every, first_of, passes, refused, scan, turn}
use Rattle.definitions.proofs.Least.{Each, and_left, and_right}
use Rattle.definitions.proofs.Turns.{rising}

-- ---- a test that fails

-- a test passes or fails
pub either : (b : Bool) → T b ⊎ (T b → ⊥)
either true = inl tt
either false = inr (λ t. t)

-- where the opposite fails, it passes
pub not-not : (b : Bool) → (T (not b) → ⊥) → T b
not-not true f = tt
not-not false f = f tt

-- where two are asked, one of them fails
pub and-fails : (a b : Bool) → (T (a && b) → ⊥) → (T a → ⊥) ⊎ (T b → ⊥)
and-fails true b f = inr f
and-fails false b f = inl (λ t. t)

-- where the test for equal numbers fails, they differ
pub not_eqb : (m n : ℕ) → (T (eqb m n) → ⊥) → m ≡ n → ⊥
not_eqb m n f e = f (subst (λ k. T (eqb m k)) e (eqb_refl m))

-- where the test for below fails, it is at least that
pub not-ltb : (m n : ℕ) → (T (ltb m n) → ⊥) → n ≤ m
not-ltb m n f = nltb→le m n (not_T (ltb m n) f)

-- where the test for at most fails, it is above that
pub not-leb : (m n : ℕ) → (T (leb m n) → ⊥) → n < m
not-leb m n f = nleb→lt m n (not_T (leb m n) f)

-- what is at least that fails the test for below
pub ltb-fails : {m n : ℕ} → n ≤ m → T (ltb m n) → ⊥
ltb-fails {m} {n} l t = let q : m < n = ltb→lt m n t in omega arith

-- what is above that fails the test for at most
pub leb-fails : {m n : ℕ} → n < m → T (leb m n) → ⊥
leb-fails {m} {n} l t = let q : m ≤ n = leb→le m n t in omega arith

-- below the length the default doesn't matter
pub get_or-any : {A : Type 0} (l : List A) (j : ℕ) (d e : A) → j < length l → get_or l j d ≡ get_or l j e
get_or-any [] j d e l = absurd (not-suc-le-zero l)
get_or-any (x ∷ xs) zero d e l = refl
get_or-any (x ∷ xs) (suc j) d e l = get_or-any xs j d e (le_of_suc-le-suc l)

-- one of the first n fails
pub record Fails (n : ℕ) (ok : ℕ → Bool) : Type 0 where
  pub place : ℕ
  pub place-lt : place < n
  pub fails : T (ok place) → ⊥

-- and with one more in front
fails-later : {n : ℕ} {ok : ℕ → Bool} (more : ℕ → Bool) → ((j : ℕ) → ok j ≡ more (suc j)) → Fails n ok → Fails (suc n) more
fails-later more e q =
    record { place = suc q.place; place-lt = suc-le-suc q.place-lt; fails = subst (λ b. T b → ⊥) (e q.place) q.fails }

-- where not all of a list pass, one fails
pub all-fails : {A : Type 0} (p : A → Bool) (l : List A) (d : A) → (T (all p l) → ⊥) → Fails (length l) (λ j. p (get_or l j d))
unfolding all
all-fails p [] d f = absurd (f tt)
all-fails p (x ∷ l) d f =
    ⊎_elim (λ g. record { place = 0; place-lt = zero-lt-suc (length l); fails = g })
    (λ g. fails-later (λ j. p (get_or (x ∷ l) j d)) (λ j. refl) (all-fails p l d g))
    (and-fails (p x) (all p l) f)

-- where all pass, each does
pub all-at : {A : Type 0} (p : A → Bool) (l : List A) (d : A) → T (all p l) → (j : ℕ) → j < length l → T (p (get_or l j d))
unfolding all
all-at p [] d t j l = absurd (not-suc-le-zero l)
all-at p (x ∷ xs) d t zero l = and_left (p x) (all p xs) t
all-at p (x ∷ xs) d t (suc j) l = all-at p xs d (and_right (p x) (all p xs) t) j (le_of_suc-le-suc l)

-- where not each slot passes with its word, one fails
pub every-fails : (p : Slot → ℕ → Bool) (f : ℕ → ℕ) (k : ℕ) (ls : List Slot) → (T (every p f k ls) → ⊥)
    → Fails (length ls) (λ j. p (get_or ls j free) (f (k + j)))
unfolding every
every-fails p f k [] n = absurd (n tt)
every-fails p f k (x ∷ ls) n =
    ⊎_elim (λ g. record { place = 0; place-lt = zero-lt-suc (length ls); fails = rw add-zero g })
    (λ g. fails-later (λ j. p (get_or (x ∷ ls) j free) (f (k + j))) (λ j. ap (λ i. p (get_or ls j free) (f i)) (suc-add k j ∙ sym (add-suc k j)))
    (every-fails p f (suc k) ls g))
    (and-fails (p x (f k)) (every p f (suc k) ls) n)

-- ---- what a verdict says

-- the verdict of a choice says what the chosen one says
pub cond-says : (P : Verdict → Type 0) (b : Bool) (v w : Verdict) → (T b → P v) → ((T b → ⊥) → P w) → P (cond b v w)
cond-says P true v w p q = p tt
cond-says P false v w p q = q (λ t. t)

module _ (P : Verdict → Type 0) (ok : ℕ → Bool) (bad : ℕ → Verdict) where
  -- a scan from i on says what the reports of the failing tests say
  says-from : (i n : ℕ) → P accepted → ((j : ℕ) → j < i + n → (T (ok j) → ⊥) → P (bad j)) → P (scan ok bad i n)
  unfolding scan
  says-from i zero p r = p
  says-from i (suc n) p r =
      cond-says P (ok i) (scan ok bad (suc i) n) (bad i) (λ t. says-from (suc i) n p (λ j l. r j (omega arith))) (λ f. r i (omega arith) f)

  -- and so a scan from 0 on
  pub scan-says : (n : ℕ) → P accepted → ((j : ℕ) → j < n → (T (ok j) → ⊥) → P (bad j)) → P (scan ok bad 0 n)
  scan-says n p r = says-from 0 n p (λ j l. r j (rw zero-add at l))

  -- where the test fails at j, a scan from i on says what the reports up to j say
  stops-from : (i n j : ℕ) → i ≤ j → j < i + n → (T (ok j) → ⊥) → ((k : ℕ) → k ≤ j → P (bad k)) → P (scan ok bad i n)
  unfolding scan
  stops-from i zero j l u f r = absurd (omega arith)
  stops-from i (suc n) j l u f r =
      cond-says P (ok i) (scan ok bad (suc i) n) (bad i)
      (λ t. ⊎_elim (λ e. absurd (f (subst (λ k. T (ok k)) e t))) (λ q. stops-from (suc i) n j q (omega arith) f r) (eq-or-lt_of_le l))
      (λ g. r i l)

  -- and so a scan from 0 on
  pub scan-stops : (n j : ℕ) → j < n → (T (ok j) → ⊥) → ((k : ℕ) → k ≤ j → P (bad k)) → P (scan ok bad 0 n)
  scan-stops n j l = stops-from 0 n j zero-le (rw zero-add l)

module _ (P : Verdict → Type 0) where
  -- each of the list says it, where those before it pass
  abbrev pub EachSays : List Verdict → Type 0
  EachSays [] = Unit {0}
  EachSays (v ∷ l) = P v × (T (passes v) → EachSays l)

  -- then the first says it
  pub first_says : (l : List Verdict) → P accepted → EachSays l → P (first_of l)
  unfolding first_of passes
  first_says [] p e = p
  first_says (accepted ∷ l) p e = first_says l p (e.1 tt)
  first_says (refused n a h ∷ l) p e = e.0

-- ---- how early a verdict is

-- how many areas a number has room for, at least as many as there are
abbrev pub room : ℕ
room = 17

-- number and area make one number, by the number's turn
abbrev pub code : ℕ → ℕ → ℕ
code n a = turn n * room + a

-- such a number and a record: the first place comes no later than the second
abbrev pub Early : ℕ → ℕ → ℕ → ℕ → Type 0
Early k h k' h' = (k < k') ⊎ ((k ≡ k') × (h ≤ h'))

-- refused, and no later than that place
abbrev pub By : ℕ → ℕ → Verdict → Type 0
By k h accepted = ⊥
By k h (refused n a i) = Early (code n a) i k h

-- where it is refused, then from lo on and before hi
abbrev pub Between : ℕ → ℕ → Verdict → Type 0
Between lo hi accepted = lo ≤ hi
Between lo hi (refused n a h) = (lo ≤ code n a) × (code n a < hi)

-- where it is refused, then under that number
abbrev pub Under : ℕ → Verdict → Type 0
Under n = Between (code n 0) (code n room)

-- lo comes no later than hi
between_le : (lo hi : ℕ) (v : Verdict) → Between lo hi v → lo ≤ hi
between_le lo hi accepted b = b
between_le lo hi (refused n a h) b = omega arith

-- one that is refused before hi is refused early enough for every place from hi on
pub passes-or-by : (k h lo hi : ℕ) → hi ≤ k → (v : Verdict) → Between lo hi v → T (passes v) ⊎ By k h v
unfolding passes
passes-or-by k h lo hi l accepted b = inl tt
passes-or-by k h lo hi l (refused n a i) b = inr (inl (omega arith))

-- the verdicts of the list stand one after another from lo to hi
abbrev pub Rising : ℕ → List Verdict → ℕ → Type 0
Rising lo [] hi = lo ≤ hi
Rising lo (v ∷ l) hi = (mid : ℕ) × Between lo mid v × Rising mid l hi

-- and so does the first of them
pub first-between : (lo : ℕ) (l : List Verdict) (hi : ℕ) → Rising lo l hi → Between lo hi (first_of l)
unfolding first_of
first-between lo [] hi r = r
first-between lo (accepted ∷ l) hi r = wider (first_of l) (first-between r.0 l hi r.2)
  where
    wider : (v : Verdict) → Between r.0 hi v → Between lo hi v
    wider accepted b = omega arith
    wider (refused n a h) b = omega arith
first-between lo (refused n a h ∷ l) hi r =
    let q : r.0 ≤ hi = between_le r.0 hi (first_of l) (first-between r.0 l hi r.2) in
    omega arith

-- where one of them is refused so early, so is the first
pub first_by : (k h lo : ℕ) (l : List Verdict) (hi : ℕ) → Rising lo l hi → (i : ℕ) → By k h (get_or l i accepted) → By k h (first_of l)
unfolding first_of
first_by k h lo [] hi r i b = b
first_by k h lo (accepted ∷ l) hi r zero b = absurd b
first_by k h lo (accepted ∷ l) hi r (suc i) b = first_by k h r.0 l hi r.2 i b
first_by k h lo (refused n a j ∷ l) hi r zero b = b
first_by k h lo (refused n a j ∷ l) hi r (suc i) b =
    go (first_of l) (first-between r.0 l hi r.2) (first_by k h r.0 l hi r.2 i b)
  where
    go : (v : Verdict) → Between r.0 hi v → By k h v → Early (code n a) j k h
    go accepted w q = absurd q
    go (refused m c x) w (inl q) = inl (omega arith)
    go (refused m c x) w (inr q) = inl (omega arith)

-- ---- the numbers in turn

-- where each number's verdict stands under it, those of a list of rising turns rise
pub turns-rise : (f : ℕ → Verdict) (i : ℕ) (l : List ℕ) → T (rising i l) → Each (λ n. Under n (f n)) l
    → Rising (i * room) (map f l) ((i + length l) * room)
unfolding rising
turns-rise f i [] t e = omega arith
turns-rise f i (n ∷ l) t e =
    let q : turn n ≡ i = eqb→eq (turn n) i (and_left (eqb (turn n) i) (rising (suc i) l) t) in
    let r = turns-rise f (suc i) l (and_right (eqb (turn n) i) (rising (suc i) l) t) e.1 in
    (suc i * room, own q (f n) e.0, subst (Rising (suc i * room) (map f l)) (omega arith) r)
  where
    own : turn n ≡ i → (v : Verdict) → Under n v → Between (i * room) (suc i * room) v
    own q accepted b = omega arith
    own q (refused m a h) b = (omega arith, omega arith)

-- where each says it, the first says it
pub each-says : (P : Verdict → Type 0) (f : ℕ → Verdict) (l : List ℕ) → P accepted → Each (λ n. P (f n)) l → P (first_of (map f l))
each-says P f l p e = first_says P (map f l) p (say l e)
  where
    say : (l : List ℕ) → Each (λ n. P (f n)) l → EachSays P (map f l)
    say [] e = tt
    say (n ∷ l) e = (e.0, λ t. say l e.1)

-- ---- the scans of a number

module _ (nr ar : ℕ) (ok : ℕ → Bool) (n : ℕ) where
  -- the records of an area: where the verdict stands, among areas lo and on and before hi
  pub records-between : (lo hi : ℕ) → lo ≤ ar → ar < hi → Between (code nr lo) (code nr hi) (scan ok (refused nr ar) 0 n)
  records-between lo hi l u =
      scan-says (Between (code nr lo) (code nr hi)) ok (refused nr ar) n (omega arith) (λ j b f. (omega arith, omega arith))

  -- and how early it is where one fails
  pub records-by : (h : ℕ) → h < n → (T (ok h) → ⊥) → By (code nr ar) h (scan ok (refused nr ar) 0 n)
  records-by h l f = scan-stops (By (code nr ar) h) ok (refused nr ar) n h l f (λ k b. inr (refl, b))

module _ (nr : ℕ) (ok : ℕ → Bool) (n : ℕ) where
  -- the areas: where the verdict stands
  pub areas-under : n ≤ room → Under nr (scan ok (λ a. refused nr a 0) 0 n)
  areas-under u = scan-says (Under nr) ok (λ a. refused nr a 0) n (omega arith) (λ a b f. (omega arith, omega arith))

  -- and how early it is where one fails
  pub areas-by : (a : ℕ) → a < n → (T (ok a) → ⊥) → By (code nr a) 0 (scan ok (λ a. refused nr a 0) 0 n)
  areas-by a l f =
      scan-stops (By (code nr a) 0) ok (λ a. refused nr a 0) n a l f
      (λ k b. ⊎_elim (λ e. inr (ap (code nr) e, zero-le)) (λ q. inl (omega arith)) (eq-or-lt_of_le b))

-- a verdict for each arena, and more
module _ (f : Arena → Verdict) (l : List Verdict) where
  -- each stands at its arena's number
  pub arenas-at : (a : Arena) → get_or (each_arena f l) (area_number a) accepted ≡ f a
  unfolding area_number
  arenas-at types = refl
  arenas-at constants = refl
  arenas-at overrides = refl
  arenas-at globals = refl
  arenas-at expressions = refl

  -- they rise where each stands under its area, and more after them
  pub arenas-rise : (n hi : ℕ) → ((a : Arena) → Between (code n (area_number a)) (code n (suc (area_number a))) (f a))
      → Rising (code n 5) l hi → Rising (code n 0) (each_arena f l) hi
  unfolding area_number
  arenas-rise n hi b r =
      (code n 1, b types, (code n 2, b constants, (code n 3, b overrides, (code n 4, b globals, (code n 5, b expressions, r)))))

  -- they all say what each says
  pub arenas-say : (P : Verdict → Type 0) → ((a : Arena) → P (f a)) → (((a : Arena) → T (passes (f a))) → EachSays P l)
      → EachSays P (each_arena f l)
  arenas-say P p r = (p types, λ t. (p constants, λ c. (p overrides, λ o. (p globals, λ g. (p expressions, λ e. r (each t c o g e))))))
    where
      each : T (passes (f types)) → T (passes (f constants)) → T (passes (f overrides)) → T (passes (f globals)) → T (passes (f expressions))
          → (a : Arena) → T (passes (f a))
      each t c o g e = elim [ types ↦ t | constants ↦ c | overrides ↦ o | globals ↦ g | expressions ↦ e ]
