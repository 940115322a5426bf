-- A walk from the start finds the first live word, a walk from the end the last: with both the span is known.
-- Assumes nothing.
use mathlib.Core.Path.{◌≡◌, refl, sym, ap, ◌∙◌}
use mathlib.Core.Bool.{Bool, true, false, cond, not}
use mathlib.Core.List.{[], ◌∷◌, reverse}
use Prim.Native.Nat.{ℕ, ◌+◌}
use borrow.Author.Tests.{eqb-false}
use lib.Dec.{eqb}
use Rattle.std.specs.Prelude.{Option, Some, None, slice_get}
use Rattle.std.specs.List.{find}
use Rattle.std.specs.Option.{unwrap_or, option_or}
use Rattle.std.proofs.lemmas.List.{reverse-append}
use Rattle.std.proofs.lemmas.List.Folds.{find-append}
use Rattle.definitions.specs.Areas.{Words, N}
use Rattle.definitions.specs.MapEntries.{live, last, spanned}
use Rattle.handle_map.specs.Answers.{is_live}

first_is : (ws : Words) → find is_live ws ≡ slice_get (live ws) 0
unfolding live
first_is [] = refl
first_is (w ∷ ws) = go (eqb w N) (first_is ws)
  where
    go : (t : Bool) → find is_live ws ≡ slice_get (live ws) 0 → cond (not t) (Some w) (find is_live ws) ≡ slice_get (cond t (live ws) (w ∷ live ws)) 0
    go true e = e
    go false e = refl

last_is : (x : ℕ) (ws : Words) → unwrap_or (find is_live (reverse ws)) x ≡ last x (live ws)
unfolding live last
last_is x [] = refl
last_is x (w ∷ ws) =
    ap (λ l. unwrap_or (find is_live l) x) (reverse-append (w ∷ []) ws)
    ∙ ap (λ o. unwrap_or o x) (find-append is_live (reverse ws) (w ∷ []))
    ∙ go (eqb w N) (find is_live (reverse ws)) (last_is x ws) (last_is w ws)
  where
    go : (t : Bool) (o : Option ℕ) → unwrap_or o x ≡ last x (live ws) → unwrap_or o w ≡ last w (live ws)
        → unwrap_or (option_or o (cond (not t) (Some w) None)) x ≡ last x (cond t (live ws) (w ∷ live ws))
    go true None e f = e
    go true (Some y) e f = e
    go false None e f = f
    go false (Some y) e f = f

-- what is found is no N
pub found : (ws : Words) (l : ℕ) → find is_live ws ≡ Some l → l ≡ N → ⊥
found [] l e n = cc
found (w ∷ ws) l e n = go (eqb w N) refl (λ q. found ws l q n) e
  where
    go : (t : Bool) → eqb w N ≡ t → (find is_live ws ≡ Some l → ⊥) → cond (not t) (Some w) (find is_live ws) ≡ Some l → ⊥
    go true q f e = f e
    go false q f e = eqb-false w N q (cc)

-- no word is live
pub span_none : (ws : Words) → find is_live ws ≡ None → record { number = 0; start = 0; end = 0 } ≡ spanned (live ws)
unfolding spanned
span_none ws e = go (live ws) (sym (first_is ws) ∙ e)
  where
    go : (v : Words) → slice_get v 0 ≡ None → record { number = 0; start = 0; end = 0 } ≡ spanned v
    go [] q = refl
    go (w ∷ v) q = cc

pub span_none_last : (ws : Words) → find is_live (reverse ws) ≡ None → record { number = 0; start = 0; end = 0 } ≡ spanned (live ws)
unfolding spanned last
span_none_last ws e = go (live ws) (sym (last_is 0 ws) ∙ ap (λ o. unwrap_or o 0) e) (sym (last_is 1 ws) ∙ ap (λ o. unwrap_or o 1) e)
  where
    go : (v : Words) → last 0 v ≡ 0 → last 1 v ≡ 1 → record { number = 0; start = 0; end = 0 } ≡ spanned v
    go [] p q = refl
    go (w ∷ v) p q = cc

-- f is the first one, and l the last
pub span_some : (ws : Words) (f l : ℕ) → find is_live ws ≡ Some f → find is_live (reverse ws) ≡ Some l
    → record { number = 0; start = f; end = l + 1 } ≡ spanned (live ws)
unfolding spanned last
span_some ws f l p q = go (live ws) (sym (first_is ws) ∙ p) (sym (last_is N ws) ∙ ap (λ o. unwrap_or o N) q)
  where
    go : (v : Words) → slice_get v 0 ≡ Some f → last N v ≡ l → record { number = 0; start = f; end = l + 1 } ≡ spanned v
    go [] p q = cc
    go (w ∷ v) p q = cc

-- what the walks of `span` find says of it
pub ruleset spans = (found, span_none, span_none_last, span_some)
