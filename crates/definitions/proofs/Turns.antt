-- The numbers in turn: each has a place of its own in the list, and what is said of each of the list holds at every place.
-- Assumes nothing.
use mathlib.Core.Path.{◌≡◌, refl, sym, ap, ◌∙◌}
use mathlib.Core.Bool.{Bool, true, false, ◌&&◌, cond}
use mathlib.Core.List.{List, [], ◌∷◌}
use Prim.Native.Nat.{ℕ, zero, suc, ◌<◌}
use native.Mathlib.Nat.{not-suc-le-zero, le_of_suc-le-suc}
use lib.Dec.{T, eqb, ltb, ltb→lt}
use lib.ListN.{length, get_or}
use borrow.Author.Tests.{eqb-true}
use Rattle.definitions.specs.Refusals.{position, turn, turns}
use Rattle.definitions.proofs.Least.{Each}

-- one of the numbers that are tried
abbrev pub Listed : ℕ → Type 0
Listed n = T (ltb (turn n) (length turns))

-- what stands at a number's position is the number
position_at : (n : ℕ) (l : List ℕ) → position n l < length l → get_or l (position n l) 0 ≡ n
unfolding position
position_at n [] h = absurd (not-suc-le-zero h)
position_at n (m ∷ l) h = go (eqb n m) (eqb-true n m) (position_at n l) h
  where
    go : (b : Bool) → (b ≡ true → n ≡ m) → (position n l < length l → get_or l (position n l) 0 ≡ n)
        → cond b 0 (suc (position n l)) < suc (length l) → get_or (m ∷ l) (cond b 0 (suc (position n l))) 0 ≡ n
    go true e f q = sym (e refl)
    go false e f q = f (le_of_suc-le-suc q)

-- so a number stands at its turn
pub at_turn : (n : ℕ) → Listed n → get_or turns (turn n) 0 ≡ n
unfolding turn
at_turn n t = position_at n turns (ltb→lt (turn n) (length turns) t)

-- and no two have the same
pub turn-once : (n m : ℕ) → Listed n → Listed m → turn n ≡ turn m → n ≡ m
turn-once n m t u e = sym (at_turn n t) ∙ ap (λ i. get_or turns i 0) e ∙ at_turn m u

-- are the turns of a list i, i + 1, .. ?
unfoldable pub rising : ℕ → List ℕ → Bool
rising i [] = true
rising i (n ∷ l) = eqb (turn n) i && rising (suc i) l

-- those of the list are, from 0 on
pub turns-rising : T (rising 0 turns)
unfolding rising turn position turns
turns-rising = tt

-- what each of a list has, the one at every place has
pub each_at : (P : ℕ → Type 0) (l : List ℕ) → Each P l → (i : ℕ) → i < length l → P (get_or l i 0)
each_at P [] e i h = absurd (not-suc-le-zero h)
each_at P (n ∷ l) e zero h = e.0
each_at P (n ∷ l) e (suc i) h = each_at P l e.1 i (le_of_suc-le-suc h)
