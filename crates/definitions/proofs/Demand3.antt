-- Demand 3 in one statement, over the definitions of `specs/`.
-- Assumes nothing.
use mathlib.Core.Path.{◌≡◌, ◌∙◌}
use mathlib.Core.Bool.{Bool, true, false}
use mathlib.Core.Logic.{⊎_elim}
use mathlib.Core.List.{List, [], map}
use Prim.Native.Nat.{ℕ, ◌<◌}
use lib.Dec.{T}
use Rattle.definitions.specs.Areas.{Areas, Arena, Elem, at, mention_count, size}
use Rattle.definitions.specs.References.{references}
use Rattle.definitions.specs.Roots.{common_roots, mention, more_roots, roots}
use Rattle.definitions.specs.Order.{order}
use Rattle.definitions.specs.Sweep.{kept, kept_from}
use Rattle.definitions.specs.Refusals.{check, check3, inside, passes}
use Rattle.definitions.specs.Numbering.{is_kept, moved, new_handle, rank}
use Rattle.definitions.specs.Records.{kept_areas}
use Rattle.definitions.specs.Outcome.{Maps, lengths, outcome}
use Rattle.definitions.proofs.Least.{◌∈◌, none_in, append_left, append_cases, Within, Closed, Reach, reached-in, sweep-reached}
use Rattle.definitions.proofs.Accepted.{Sound, Accepted, facts, accepts}
use Rattle.definitions.proofs.Kept.{Inside, inside-lt, OrderedOn, all-ordered, roots-inside, from-roots, from-closed, from-least, from_more, kept-inside}
use Rattle.definitions.proofs.Places.{new-kept, new-mono, rank_below, no_gap}
use Rattle.definitions.proofs.Reading.{after, moved-refers}
use Rattle.definitions.proofs.SecondPass.{mentions-in-roots, roots-after, accepted-again, drops-nothing}
use Rattle.definitions.proofs.Identity.{second-pass, outcome-self}

-- demand 3 of a module and a flag, sentence by sentence
pub record Demand3 (s : Areas) (keep : Bool) : Type 1 where
  -- "what the sweep keeps" are elements of the module
  pub elements : Within (kept s keep) (λ x. T (inside s x))
  -- "holds the roots"
  pub holds-roots : Within (roots s keep) (λ x. x ∈ kept s keep)
  -- "and all that its members refer to"
  pub closed : Closed s (λ x. x ∈ kept s keep)
  -- "and lies inside every other such set"
  pub least : (S : Elem → Type 0) → Closed s S → Within (roots s keep) S → Within (kept s keep) S
  -- "Kept elements are numbered from 0": each number is below the count
  pub below-count : (a : Arena) (h : ℕ) → at a h ∈ kept s keep → new_handle (is_kept (kept s keep) a) h < rank (is_kept (kept s keep) a) (size s a)
  -- "without a gap": each number below the count is some kept element's
  pub without-gap : (a : Arena) (i : ℕ) → i < rank (is_kept (kept s keep) a) (size s a)
      → (h : ℕ) × (at a h ∈ kept s keep) × (new_handle (is_kept (kept s keep) a) h ≡ i)
  -- "in their old order"
  pub in_order : (a : Arena) (h k : ℕ) → at a h ∈ kept s keep → at a k ∈ kept s keep → h < k → new_handle (is_kept (kept s keep) a) h < new_handle (is_kept (kept s keep) a) k
  -- "each kept record refers to the new places"
  pub refers : (x : Elem) → x ∈ kept s keep → references (kept_areas s (kept s keep)) (moved (kept s keep) x) ≡ map (moved (kept s keep)) (references s x)
  -- "a second pass with the same flag" is accepted wherever the maps have room,
  pub again-accepted : (maps : List ℕ) → T (passes (check3 (kept_areas s (kept s keep)) maps)) → T (passes (check (kept_areas s (kept s keep)) maps))
  -- "drops nothing"
  pub again-keeps : (x : Elem) → T (inside (kept_areas s (kept s keep)) x) → x ∈ kept (kept_areas s (kept s keep)) keep
  -- "and changes no record or mention"
  pub again-same : kept_areas (kept_areas s (kept s keep)) (kept (kept_areas s (kept s keep)) keep) ≡ kept_areas s (kept s keep)
  -- so that, given what was kept, it leaves every area as it was
  pub again-outcome : (p : Maps) → T (passes (check3 (kept_areas s (kept s keep)) (lengths p)))
      → (outcome (kept_areas s (kept s keep)) p keep).areas ≡ kept_areas s (kept s keep)

-- it is enough that what is kept is well ordered
pub demand3-of : (s : Areas) (keep : Bool) → Sound s → OrderedOn s (kept s keep) → Demand3 s keep
demand3-of s keep c o =
    record {
      elements = ins;
      holds-roots = from-roots s rs;
      closed = clo;
      least = from-least s rs;
      below-count = λ a h i. rw (new-kept m a h i) (rank_below m a h (size s a) i (inside-lt s a h (ins (at a h) i)));
      in_order = λ a. new-mono m a;
      without-gap = λ a i l.
          let q = no_gap m a (size s a) i l in
          (q.from, q.from-kept, new-kept m a q.from q.from-kept ∙ q.from-rank);
      refers = moved-refers s m c ins clo;
      again-accepted = λ maps. accepts (after s m) maps again;
      again-keeps = drops-nothing s c rs (roots-inside s c keep) o mentioned rs' ins' roots-again;
      again-same = same-again;
      again-outcome = λ p room. outcome-self (after s m) p keep (accepts (after s m) (lengths p) again room) same-again;
    }
  where
    rs : List Elem
    rs = roots s keep

    m : List Elem
    m = kept s keep

    ins : Within m (Inside s)
    ins = kept-inside s c keep

    clo : Closed s (λ x. x ∈ m)
    clo = from-closed s rs c (roots-inside s c keep) o

    mentioned : (h : ℕ) → h < mention_count s → mention s h ∈ m
    mentioned h l = from-roots s rs (mention s h) (mentions-in-roots s keep h l)

    again : Accepted (after s m)
    again = accepted-again s c rs (roots-inside s c keep) o mentioned

    -- the second pass's roots are those of what was kept
    rs' : List Elem
    rs' = roots (after s m) keep

    ins' : Within rs' (Inside (after s m))
    ins' = roots-inside (after s m) again.sound keep

    roots-again : (x : Elem) → x ∈ rs → moved m x ∈ rs'
    roots-again x i = roots-after s m c ins clo keep x (from-roots s rs x i) i

    same-again : kept_areas (after s m) (kept (after s m) keep) ≡ after s m
    same-again = second-pass s c rs (roots-inside s c keep) o mentioned rs' ins' roots-again

-- so demand 3 holds of every accepted module, for either flag
pub demand3 : (s : Areas) (maps : List ℕ) (keep : Bool) → T (passes (check s maps)) → Demand3 s keep
demand3 s maps keep t =
    let c = facts s maps t in
    demand3-of s keep c.sound (all-ordered s c (kept s keep) (kept-inside s c.sound keep))

-- ---- what is kept, as what references lead to

-- what the sweep keeps of an accepted module is exactly what references lead to from the roots
pub kept-reach : (s : Areas) (maps : List ℕ) (keep : Bool) → T (passes (check s maps)) → (x : Elem) → Reach s (roots s keep) x → x ∈ kept s keep
kept-reach s maps keep t = reached-in s (roots s keep) (kept s keep) (demand3 s maps keep t).closed (from-roots s (roots s keep))

pub reach-kept : (s : Areas) (keep : Bool) (x : Elem) → x ∈ kept s keep → Reach s (roots s keep) x
unfolding kept_from
reach-kept s keep = sweep-reached s (roots s keep) (order s)

-- ---- the two flags

-- the roots under No are roots under Yes
fewer-roots : (s : Areas) → Within (roots s false) (λ x. x ∈ roots s true)
unfolding roots more_roots
fewer-roots s x r =
    ⊎_elim (λ u. append_left x (common_roots s) (more_roots s true) u) (λ u. absurd (none_in x u)) (append_cases x (common_roots s) [] r)

-- what is kept under No is kept under Yes
pub yes-keeps : (s : Areas) (maps : List ℕ) → T (passes (check s maps)) → Within (kept s false) (λ x. x ∈ kept s true)
yes-keeps s maps t = from_more s (roots s false) (roots s true) (fewer-roots s)
