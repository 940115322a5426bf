-- Loops over numbers: what one more record, mention or handle of a run adds.
-- Assumes nothing.
use mathlib.Core.Path.{◌≡◌, refl, ap}
use mathlib.Core.Bool.{Bool, true, false, cond}
use mathlib.Core.List.{List, [], ◌∷◌, ◌++◌, map, map-append}
use Prim.Native.Nat.{ℕ, zero, suc, ◌+◌, ◌<◌}
use native.Mathlib.Numerals.{add-one}
use native.Mathlib.Omega.{arith}
use lib.ListN.{length, get_or, take}
use lib.Seq.{take-suc, take_all}
use Rattle.definitions.specs.Lists.{count_up, select}
use Rattle.definitions.specs.Areas.{Areas, Arena, Elem, at, numbered, mention_word}
use Rattle.definitions.specs.Roots.{mention, is_named, is_abstract, root_constant, named_override}
use Rattle.arena.specs.HandleSet.{bit, Inserted}
use Rattle.arena.specs.declared.sizes.Sizes.{Sizes}
use Rattle.arena.specs.declared.handle_set.Bases.{Bases}
use Rattle.trace.specs.Bits.{Put, Marked, root_in, those_in, roots_in}
use Rattle.trace.proofs.Sets.{put_one, put-more, put-none}
use Rattle.trace.proofs.Behind.{marked_more, marked-none}

-- opens what makes a record a root
unfoldable pub rooted : ℕ
unfolding root_in numbered is_named is_abstract root_constant named_override
rooted = 0

count-last : (i n : ℕ) → count_up i (suc n) ≡ count_up i n ++ ((i + n) ∷ [])
unfolding count_up
count-last i zero = let z : i ≡ i + 0 = omega arith in ap (λ k. k ∷ []) z
count-last i (suc n) = let z : suc i + n ≡ i + suc n = omega arith in rw (← z) (ap (λ l. i ∷ l) (count-last (suc i) n))

count-more : (n : ℕ) → count_up 0 (n + 1) ≡ count_up 0 n ++ (n ∷ [])
count-more n = let z : 0 + n ≡ n = omega arith in rw (add-one n, count-last 0 n, z)

select-append : (p : ℕ → Bool) (l r : List ℕ) → select p (l ++ r) ≡ select p l ++ select p r
unfolding select
select-append p [] r = refl
select-append p (x ∷ l) r = grind (arith, select-append p l r)

-- none yet
module _ (s : Areas) (b : Bases) (v : List ℕ) where
  pub mention-none : Marked s b (map (mention s) (count_up 0 0)) v v
  unfolding count_up
  mention-none = marked-none s b v

  pub root-none : (a : Arena) → Marked s b (those_in s a 0) v v
  unfolding those_in select count_up
  root-none a = marked-none s b v

-- one mention more
module _ (s : Areas) (b : Bases) (n : ℕ) {x : Elem} {v w u : List ℕ} where
  pub mention-more : Marked s b (map (mention s) (count_up 0 n)) v w → Marked s b (x ∷ []) w u
      → x ≡ at (numbered (mention_word s n 0)) (mention_word s n 1) → Marked s b (map (mention s) (count_up 0 (n + 1))) v u
  unfolding mention
  mention-more p q e = rw (count-more n, map-append) (marked_more s b _ (mention s n ∷ []) p (rw e at q))

-- one record more, which is a root or is not
those_more : (s : Areas) (a : Arena) (n : ℕ) → those_in s a (n + 1) ≡ those_in s a n ++ map (at a) (cond (root_in s a n) (n ∷ []) [])
unfolding those_in select
those_more s a n = rw (count-more n, select-append, map-append)

module _ (s : Areas) (b : Bases) (a : Arena) (n : ℕ) {v u : List ℕ} where
  pub root-more : {x : Elem} {w : List ℕ} → Marked s b (those_in s a n) v w → Marked s b (x ∷ []) w u → x ≡ at a n → root_in s a n ≡ true → Marked s b (those_in s a (n + 1)) v u
  root-more p q e t = rw (those_more s a n, t) (marked_more s b _ (at a n ∷ []) p (rw e at q))

  pub root-passed : Marked s b (those_in s a n) v u → root_in s a n ≡ false → Marked s b (those_in s a (n + 1)) v u
  root-passed p t = rw (those_more s a n, t) (marked_more s b _ [] p (marked-none s b u))

-- one handle of a run more
module _ (b : Bases) (a : Arena) (run : List ℕ) (i : ℕ) {x : Elem} {v w u : List ℕ} where
  pub run-more : Put (map (bit b) (map (at a) (take i run))) v w → Inserted w (bit b x) u → x ≡ at a (get_or run i 0) → i < length run
      → Put (map (bit b) (map (at a) (take (i + 1) run))) v u
  run-more p q e l = rw (add-one i, take-suc run i 0 l, map-append, map-append) (put-more _ (bit b (at a (get_or run i 0)) ∷ []) p (put_one (rw e at q)))

pub ruleset loops = (take_all, put-none)

-- the roots, by the flag
module _ (s : Areas) (b : Bases) (n : Sizes) {keep : Bool} {v w u : List ℕ} (p : Marked s b (map (mention s) (count_up 0 n.mentions)) v w) where
  pub roots-no : Marked s b (those_in s (numbered 1) n.constants) w u → keep ≡ false → Marked s b (roots_in s keep n) v u
  unfolding roots_in numbered
  roots-no q e = rw e (marked_more s b _ [] (marked_more s b _ _ p q) (marked-none s b u))

  pub roots-yes : {w' z y : List ℕ} → Marked s b (those_in s (numbered 1) n.constants) w w' → Marked s b (those_in s (numbered 3) n.globals) w' z
      → Marked s b (those_in s (numbered 2) n.overrides) z y → Marked s b (those_in s (numbered 0) n.types) y u → keep ≡ true → Marked s b (roots_in s keep n) v u
  unfolding roots_in numbered
  roots-yes q r t m e = rw e (marked_more s b _ _ (marked_more s b _ _ p q) (marked_more s b _ _ (marked_more s b _ _ r t) m))
