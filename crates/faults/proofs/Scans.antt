-- First faults: what is left of a scan, or of several verdicts in turn, decides. Assumes nothing.
use Rattle.std.proofs.Common.{◌≡◌, refl, Bool, true, cond, List, [], ◌∷◌, map, ℕ, zero, suc, ◌+◌, ◌-◌, ◌≤◌, ◌<◌, arith, length, get_or}
use Rattle.definitions.specs.Refusals.{Verdict, accepted, first_of, scan}
use Rattle.faults.specs.Checking.{in_turn}

-- of a scan the next place decides, or the places after it
module _ (ok : ℕ → Bool) (bad : ℕ → Verdict) (i n : ℕ) where
  pub scan_next : i < n → scan ok bad i (n - i) ≡ cond (ok i) (scan ok bad (i + 1) (n - (i + 1))) (bad i)
  unfolding scan
  scan_next l = grind arith

  pub scan_end : n ≤ i → scan ok bad i (n - i) ≡ accepted
  unfolding scan
  scan_end l = grind arith

-- of verdicts in turn the next, or those after it
module _ (f : ℕ → Verdict) (i n : ℕ) where
  pub turn_next : i < n → in_turn f i (n - i) ≡ first_of (f i ∷ in_turn f (i + 1) (n - (i + 1)) ∷ [])
  unfolding in_turn
  turn_next l = grind arith

  pub turn_end : n ≤ i → in_turn f i (n - i) ≡ accepted
  unfolding in_turn
  turn_end l = grind arith

pub ruleset scans = (scan_next, scan_end, turn_next, turn_end)

-- a scan of good places
pub all-accepted : (ok : ℕ → Bool) (bad : ℕ → Verdict) (i n : ℕ) → ((j : ℕ) → i ≤ j → j < i + n → ok j ≡ true) → scan ok bad i n ≡ accepted
unfolding scan
all-accepted ok bad i zero f = refl
all-accepted ok bad i (suc n) f = rw (f i (omega arith) (omega arith)) (all-accepted ok bad (suc i) n (λ j l h. f j (omega arith) (omega arith)))

-- verdicts that all accept
pub turns-accepted : (f : ℕ → Verdict) (i n : ℕ) → ((j : ℕ) → i ≤ j → j < i + n → f j ≡ accepted) → in_turn f i n ≡ accepted
unfolding in_turn first_of
turns-accepted f i zero h = refl
turns-accepted f i (suc n) h = rw (h i (omega arith) (omega arith), turns-accepted f (suc i) n (λ j l k. h j (omega arith) (omega arith)))

-- ---- a list of verdicts as verdicts in turn

pub skips : (l : List Verdict) → first_of (accepted ∷ l) ≡ first_of l
unfolding first_of
skips l = refl

pub single : (v : Verdict) → first_of (v ∷ []) ≡ v
unfolding first_of
single v = grind arith

pub ends : (v : Verdict) → first_of (v ∷ accepted ∷ []) ≡ v
unfolding first_of
ends v = grind arith

pub flat : (v : Verdict) (l : List Verdict) → first_of (v ∷ first_of l ∷ []) ≡ first_of (v ∷ l)
unfolding first_of
flat v l = grind (arith, single)

pub ruleset flattened = (skips, single, ends, flat)

-- those of a list, where place i + j has that of its number j
pub list-turn : (f h : ℕ → Verdict) (i : ℕ) (l : List ℕ) → ((j : ℕ) → h (i + j) ≡ f (get_or l j 0)) → first_of (map f l) ≡ in_turn h i (length l)
unfolding in_turn first_of
list-turn f h i [] e = refl
list-turn f h i (n ∷ l) e = grind (arith, flat, e 0, list-turn f h (suc i) l (λ j. grind (arith, e (suc j))))
