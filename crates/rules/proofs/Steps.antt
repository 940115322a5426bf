-- One step of a loop over records: the sum of the counts of their runs, and the leading types.
-- Assumes nothing.
use mathlib.Core.Path.{◌≡◌, refl, ap, ◌∙◌}
use mathlib.Core.Bool.{cond}
use Prim.Native.Nat.{ℕ, suc, ◌+◌, ◌-◌, ◌≤◌, ◌<◌}
use native.Mathlib.Numerals.{add-one}
use native.Mathlib.Omega.{arith}
use lib.Dec.{leb}
use borrow.Author.Tests.{le-leb, lt-leb}
use Rattle.definitions.specs.Lists.{always, total}
use Rattle.definitions.specs.Areas.{Areas, Arena}
use Rattle.definitions.specs.References.{span}
use Rattle.definitions.specs.Order.{sized_by}
use Rattle.definitions.specs.Refusals.{runs_before}
use Rattle.definitions.proofs.ListLaws.{total-step, total_mono}
use Rattle.rules.specs.Rules.{leading}

module _ (s : Areas) (a : Arena) where
  pub runs_none : runs_before s a 0 ≡ 0
  unfolding runs_before total
  runs_none = refl

module _ (s : Areas) (a : Arena) (i : ℕ) where
  -- one record's count more
  pub runs_step : runs_before s a (i + 1) ≡ runs_before s a i + span s a i
  unfolding runs_before
  runs_step = rw add-one (total-step always (span s a) i tt)

  pub runs_mono : (n : ℕ) → i ≤ n → runs_before s a i ≤ runs_before s a n
  unfolding runs_before
  runs_mono n l = total_mono always (span s a) n i l

module _ (s : Areas) (e u n : ℕ) where
  next : u < n → leading s e u (n - u) ≡ cond (leb (sized_by s u) e) (leading s e (u + 1) (n - (u + 1))) u
  unfolding leading
  next h = let m : n - u ≡ suc (n - (u + 1)) = omega arith in rw (m, ← add-one u)

  -- a type that is not past the bound leads
  pub leading_on : u < n → sized_by s u ≤ e → leading s e u (n - u) ≡ leading s e (u + 1) (n - (u + 1))
  leading_on h l = next h ∙ ap (λ b. cond b (leading s e (u + 1) (n - (u + 1))) u) (le-leb (sized_by s u) e l)

  -- one that is ends the leading types, and so does the last
  pub leading_past : u < n → e < sized_by s u → leading s e u (n - u) ≡ u
  leading_past h l = next h ∙ ap (λ b. cond b (leading s e (u + 1) (n - (u + 1))) u) (lt-leb (sized_by s u) e l)

  pub leading_none : n ≤ u → leading s e u (n - u) ≡ u
  unfolding leading
  leading_none h = let m : n - u ≡ 0 = omega arith in rw m

pub ruleset leads = (leading_on, leading_past, leading_none)
