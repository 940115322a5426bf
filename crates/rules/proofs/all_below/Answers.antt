-- `rules::all_below` meets its contract: std's test of a whole list is the definitions'.
-- Assumes nothing.
use Rattle.std.proofs.Common.{◌≡◌, Bool, ◌&&◌, List, [], ◌∷◌, ℕ, ltb, refl, ap, ◌∙◌, rules, tests}
use Rattle.std.specs.List.{list_all}
use Rattle.std.proofs.lemmas.Iterator.Search.{all_from_yields_List}
use Rattle.std.proofs.lemmas.Iterator.{YieldsList-from_slice}
use Rattle.definitions.specs.Lists.{all}
use Rattle.rules.proofs.all_below.Goals as goal

all_of : (p : ℕ → Bool) (l : List ℕ) → list_all p l ≡ all p l
unfolding all
all_of p [] = refl
all_of p (x ∷ l) = ap (λ b. p x && b) (all_of p l)

pub returns : goal.returns
returns c =
    let run = c.args.run.now in
    let p = λ (w : ℕ). ltb w c.args.bound in
    all_from_yields_List p _ _ c.all.result c.all.ensures.ran (YieldsList-from_slice run cc) (λ x b q k. search (rules, tests))
    ∙ all_of p run
