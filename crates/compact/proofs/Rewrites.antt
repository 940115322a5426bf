-- `rewrite`: by the maps of what is kept the areas are the areas after, and where no record is lost nothing changes.
-- Assumes nothing.
use mathlib.Core.Path.{◌≡◌, refl, sym, ap, subst, ◌∙◌}
use mathlib.Core.Bool.{Bool, true, false, ◌&&◌, cond}
use mathlib.Core.List.{List}
use Prim.Native.Nat.{ℕ, zero, suc, ◌+◌, ◌<◌}
use native.Mathlib.Decide.{ℕ_discrete}
use native.Mathlib.Nat.{not-suc-le-zero}
use native.Mathlib.Omega.{arith}
use lib.ListN.{length}
use lib.Dec.{T, eqb, eqb→eq}
use Rattle.definitions.specs.Lists.{total}
use Rattle.definitions.specs.Areas.{Areas, pool, size, words}
use Rattle.definitions.specs.Areas.{Arena, types, constants, overrides, globals, expressions, Elem, at}
use Rattle.definitions.specs.Numbering.{rank, is_kept}
use Rattle.definitions.specs.Records.{runs_up_to, kept_areas, areas_after}
use Rattle.definitions.specs.Outcome.{Maps, map_of, maps_after}
use Rattle.definitions.proofs.Least.{◌∈◌, Within, and_left, and_right}
use Rattle.definitions.proofs.Accepted.{Sound}
use Rattle.definitions.proofs.Places.{rank-le}
use Rattle.definitions.proofs.Kept.{Inside, inside-lt}
use Rattle.definitions.proofs.Identity.{whole, areas-self}
use Rattle.arena.specs.Sizes.{sizes_of}
use Rattle.adjust.specs.Rewrite.{areas_by}
use Rattle.adjust.proofs.Laws.{runs_after, areas-after}
use Rattle.compact.specs.Stages.{loses_none, pools_by, pools_of, Rewrites}
use Rattle.compact.specs.declared.rewrite.PoolCounts.{PoolCounts}
use Rattle.compact.proofs.Numbers.{kept_records}

-- how many words of each pool are kept
abbrev pub kept_pools : Areas → List Elem → PoolCounts
kept_pools s m =
    record {
      members = length (runs_up_to s m types (size s types));
      components = length (runs_up_to s m expressions (size s expressions));
    }

-- where as many pass as there are, all pass
rank-full : (p : ℕ → Bool) (n : ℕ) → rank p n ≡ n → (h : ℕ) → h < n → T (p h)
unfolding rank total
rank-full p zero e h l = absurd (not-suc-le-zero l)
rank-full p (suc n) e h l = go (p n) refl e (rank-full p n)
  where
    go : (b : Bool) → p n ≡ b → cond b (rank p n + 1) (rank p n) ≡ suc n → (rank p n ≡ n → (h : ℕ) → h < n → T (p h)) → T (p h)
    go true q r f = elim (ℕ_discrete h n) [
      | yes z ↦ subst T (sym (ap p z ∙ q)) tt
      | no z ↦ f (omega arith) h (omega arith)
    ]
    go false q r f = absurd (omega (arith, rank-le p n))

-- where the test of each arena is asked in turn, each passes
each-passes : (q : Arena → Bool) → T (q types && (q constants && (q overrides && (q globals && q expressions)))) → (a : Arena) → T (q a)
each-passes q t types = and_left (q types) _ t
each-passes q t constants = and_left (q constants) _ (and_right (q types) _ t)
each-passes q t overrides = and_left (q overrides) _ (and_right (q constants) _ (and_right (q types) _ t))
each-passes q t globals = and_left (q globals) (q expressions) (and_right (q overrides) _ (and_right (q constants) _ (and_right (q types) _ t)))
each-passes q t expressions = and_right (q globals) (q expressions) (and_right (q overrides) _ (and_right (q constants) _ (and_right (q types) _ t)))

module _ (s : Areas) (m : List Elem) (p : Maps) (c : Sound s) (ins : Within m (Inside s)) where
  -- as many are kept of each arena as there are
  full : T (loses_none (sizes_of s) (kept_records s m)) → (a : Arena) → rank (is_kept m a) (size s a) ≡ size s a
  full t a =
      eqb→eq (rank (is_kept m a) (size s a)) (size s a) (each-passes (λ b. eqb (rank (is_kept m b) (size s b)) (size s b)) t a)

  -- then the kept areas are the areas
  same : T (loses_none (sizes_of s) (kept_records s m)) → kept_areas s m ≡ s
  same t = whole s m c ins all-kept
    where
      all-kept : (x : Elem) → Inside s x → x ∈ m
      all-kept (at a h) i = rank-full (is_kept m a) (size s a) (full t a) h (inside-lt s a h i)

  -- either way the areas and the pools' counts are those after
  pub rewritten : {k : PoolCounts} {s' : Areas} → Rewrites (sizes_of s) (kept_records s m) k s (maps_after s m p) s'
      → (s' ≡ areas_after s m) × (k ≡ kept_pools s m)
  unfolding kept_areas words pool map_of
  rewritten {k} {s'} r = go (loses_none (sizes_of s) (kept_records s m)) same r.areas-are r.pools-are
    where
      go : (b : Bool) → (T b → kept_areas s m ≡ s) → s' ≡ cond b s (areas_by (maps_after s m p) s)
          → k ≡ cond b (pools_of s) (pools_by (maps_after s m p) s) → (s' ≡ areas_after s m) × (k ≡ kept_pools s m)
      go true f a q = (
        a ∙ sym (areas-self s m (f tt)),
        q ∙ ap (λ x. record { members = length x.members; components = length x.components }) (sym (f tt)),
      )
      go false f a q = (
        a ∙ areas-after s m p c ins,
        q ∙ (λ i. record { members = length (runs_after s m p c types i); components = length (runs_after s m p c expressions i) }),
      )
