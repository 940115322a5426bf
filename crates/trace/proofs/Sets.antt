-- Bits put into words: none, one, and some and then more.
-- Assumes nothing.
use mathlib.Core.Path.{◌≡◌, refl, sym, ◌∙◌}
use mathlib.Core.Bool.{◌||◌, or-false}
use mathlib.Core.List.{List, [], ◌∷◌, ◌++◌}
use Prim.Native.Nat.{ℕ}
use native.Mathlib.Omega.{arith}
use Rattle.std.proofs.lemmas.Bool.Decides.{nat_tests}
use Rattle.arena.specs.HandleSet.{member, Inserted}
use Rattle.arena.proofs.Sets.{member-past}
use Rattle.trace.specs.Bits.{among, added, Put}

among-append : (is js : List ℕ) (j : ℕ) → among (is ++ js) j ≡ among is j || among js j
unfolding among
among-append [] js j = refl
among-append (i ∷ is) js j = grind (arith, among-append is js j)

-- nothing is put in
pub put-none : (v : List ℕ) → Put [] v v
unfolding added among
put-none v = record { as_long = refl; holds = λ j. sym (or-false (member v j)) }

-- one bit, as `insert` does
pub put_one : {i : ℕ} {v w : List ℕ} → Inserted v i w → Put (i ∷ []) v w
unfolding added among
put_one {i} {v} {w} p = record {
  as_long = p.as_long;
  holds = λ j. grind (arith, nat_tests, p.put, p.others j, member-past v i);
}

-- some bits and then more
pub put-more : (is js : List ℕ) {v w u : List ℕ} → Put is v w → Put js w u → Put (is ++ js) v u
unfolding added
put-more is js {v} {w} {u} p q = record {
  as_long = q.as_long ∙ p.as_long;
  holds = λ j. grind (arith, p.holds j, q.holds j, p.as_long, among-append is js j);
}

pub put_two : {i k : ℕ} {v w u : List ℕ} → Inserted v i w → Inserted w k u → Put (i ∷ k ∷ []) v u
put_two {i} {k} p q = put-more (i ∷ []) (k ∷ []) (put_one p) (put_one q)

pub ruleset puts = (put-none, put_one, put_two)
