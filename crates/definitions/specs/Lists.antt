-- Lists and sums over numbers that pass a test: what the sections below count and join with.
-- Assumes nothing.
use Rattle.std.specs.Prelude.{Bool, true, ◌&&◌, cond, List, [], ◌∷◌, ◌++◌, ℕ, zero, suc, ◌+◌}

-- every number passes
abbrev pub always : ℕ → Bool
always h = true

-- the sum of g over those of the first h numbers that pass
unfoldable pub total : (ℕ → Bool) → (ℕ → ℕ) → ℕ → ℕ
total p g zero = 0
total p g (suc h) = cond (p h) (total p g h + g h) (total p g h)

-- the lists f of those of the first h numbers that pass, one after another
unfoldable pub gather : (ℕ → Bool) → (ℕ → List ℕ) → ℕ → List ℕ
gather p f zero = []
gather p f (suc h) = gather p f h ++ cond (p h) (f h) []

-- n numbers from i on: i, i + 1, ..
unfoldable pub count_up : ℕ → ℕ → List ℕ
count_up i zero = []
count_up i (suc n) = i ∷ count_up (suc i) n

-- those of the list that pass
unfoldable pub select : (ℕ → Bool) → List ℕ → List ℕ
select p [] = []
select p (i ∷ l) = cond (p i) (i ∷ select p l) (select p l)

-- do all of the list pass ?
unfoldable pub all : {A : Type 0} → (A → Bool) → List A → Bool
all p [] = true
all p (x ∷ l) = p x && all p l
