-- "each count is the number of map entries other than N among the old records, or the length of the kept runs"
-- Assumes nothing.
use mathlib.Core.Path.{◌≡◌, refl, sym, ap, ◌∙◌}
use mathlib.Core.Bool.{Bool, true, false, cond}
use mathlib.Core.List.{List, [], ◌∷◌, ◌++◌}
use Prim.Native.Nat.{ℕ, zero, suc, ◌+◌, ◌≤◌, ◌<◌}
use native.Mathlib.Nat.{le_refl, le_trans}
use native.Mathlib.Numerals.{add-one}
use native.Mathlib.Omega.{arith}
use lib.Dec.{T, eqb}
use lib.ListN.{length, take, drop, length-append}
use lib.Seq.{take_at}
use borrow.Author.Tests.{ne_eqb}
use Rattle.definitions.specs.Lists.{total, gather}
use Rattle.definitions.specs.Areas.{Words, N, Arena, types, constants, overrides, globals, expressions, Areas, Elem, size}
use Rattle.definitions.specs.Sweep.{kept}
use Rattle.definitions.specs.Refusals.{passes, check}
use Rattle.definitions.specs.Numbering.{rank, new_handle, map_up_to, is_kept, map_after}
use Rattle.definitions.specs.Records.{start_after, runs_up_to}
use Rattle.definitions.specs.Outcome.{Maps, map_of, lengths, kept_counts, maps_after, outcome_of, outcome}
use Rattle.definitions.specs.MapEntries.{live}
use Rattle.definitions.proofs.ListLaws.{length-gather}
use Rattle.definitions.proofs.Accepted.{Sound, facts, size_few}
use Rattle.definitions.proofs.Places.{rank-le}
use Rattle.definitions.proofs.Reading.{start-total}
use Rattle.definitions.proofs.Unchanged.{outcome-accepted}

-- how many of the arena's map entries among its old records are other than N
abbrev pub entries : Areas → Arena → Words → ℕ
entries s a map = length (live (take (size s a) map))

-- the length of the runs of the arena's kept records
abbrev pub kept_runs : Areas → List Elem → Arena → ℕ
kept_runs s m a = start_after s m a (size s a)

-- the live words of two lists, one after another
pub live-append : (l r : Words) → live (l ++ r) ≡ live l ++ live r
unfolding live
live-append [] r = refl
live-append (w ∷ l) r = go (eqb w N) (live-append l r)
  where
    go : (b : Bool) → live (l ++ r) ≡ live l ++ live r → cond b (live (l ++ r)) (w ∷ live (l ++ r)) ≡ cond b (live l) (w ∷ live l) ++ live r
    go true e = e
    go false e = ap (λ q. w ∷ q) e

-- a word for each record
pub map-length : (p : ℕ → Bool) (n : ℕ) → length (map_up_to p n) ≡ n
unfolding map_up_to gather
map-length p zero = refl
map-length p (suc n) = length-append (map_up_to p n) (new_handle p n ∷ []) ∙ ap (λ k. k + 1) (map-length p n) ∙ add-one n

-- of a map's first n words as many are other than N as are kept
live_map : (p : ℕ → Bool) (n : ℕ) → n ≤ N → length (live (map_up_to p n)) ≡ rank p n
unfolding map_up_to gather rank total live new_handle
live_map p zero l = refl
live_map p (suc n) l =
    ap length (live-append (map_up_to p n) (new_handle p n ∷ []))
    ∙ length-append (live (map_up_to p n)) (live (new_handle p n ∷ []))
    ∙ ap (λ k. k + length (live (new_handle p n ∷ []))) (live_map p n (omega arith))
    ∙ go (p n)
  where
    go : (b : Bool) → rank p n + length (live (cond b (rank p n) N ∷ [])) ≡ cond b (rank p n + 1) (rank p n)
    go true = let q : rank p n < N = le_trans (omega (arith, rank-le p n)) l in rw (ne_eqb (rank p n) N (λ e. omega arith))
    go false = omega arith

-- so it is of the map after the pass
map-entries : (s : Areas) (m : List Elem) (a : Arena) (old : Words) → size s a ≤ N → entries s a (map_after s m a old) ≡ rank (is_kept m a) (size s a)
unfolding map_after
map-entries s m a old l =
    ap (λ w. length (live w)) (take_at (map_up_to (is_kept m a) (size s a)) (drop (size s a) old) (size s a) (map-length (is_kept m a) (size s a)))
    ∙ live_map (is_kept m a) (size s a) l

-- and the words of the kept runs are as many as their counts say
pub run-words : (s : Areas) (m : List Elem) → Sound s → (a : Arena) → length (runs_up_to s m a (size s a)) ≡ kept_runs s m a
unfolding runs_up_to
run-words s m c a = length-gather (is_kept m a) _ (size s a) ∙ start-total s m c a (size s a) (le_refl (size s a))

-- the seven counts of an accepted module
pub counts : (s : Areas) (p : Maps) (keep : Bool) → T (passes (check s (lengths p)))
    → (outcome s p keep).counts
    ≡ entries s types (map_of (outcome s p keep).maps types)
    ∷ entries s constants (map_of (outcome s p keep).maps constants)
    ∷ entries s overrides (map_of (outcome s p keep).maps overrides)
    ∷ entries s globals (map_of (outcome s p keep).maps globals)
    ∷ entries s expressions (map_of (outcome s p keep).maps expressions)
    ∷ kept_runs s (kept s keep) types
    ∷ kept_runs s (kept s keep) expressions
    ∷ []
unfolding outcome_of kept_counts map_of maps_after
counts s p keep t =
    let c : Sound s = (facts s (lengths p) t).sound in
    let few : (a : Arena) → size s a ≤ N = λ a. le_trans (omega arith) (size_few s c.few a) in
    rw (outcome-accepted s p keep t)
    (seventh
    (sym (map-entries s (kept s keep) types p.types (few types)))
    (sym (map-entries s (kept s keep) constants p.constants (few constants)))
    (sym (map-entries s (kept s keep) overrides p.overrides (few overrides)))
    (sym (map-entries s (kept s keep) globals p.globals (few globals)))
    (sym (map-entries s (kept s keep) expressions p.expressions (few expressions)))
    (run-words s (kept s keep) c types)
    (run-words s (kept s keep) c expressions))
  where
    seventh : {a b c d e f g a' b' c' d' e' f' g' : ℕ} → a ≡ a' → b ≡ b' → c ≡ c' → d ≡ d' → e ≡ e' → f ≡ f' → g ≡ g'
        → ◌≡◌ {A = List ℕ} (a ∷ b ∷ c ∷ d ∷ e ∷ f ∷ g ∷ []) (a' ∷ b' ∷ c' ∷ d' ∷ e' ∷ f' ∷ g' ∷ [])
    seventh p q r s t u v = cc
