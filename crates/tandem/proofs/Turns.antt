-- The tandem's turns: which visit comes next, and a pass with one visit more.
-- Assumes nothing.
use mathlib.Core.Path.{◌≡◌, refl, sym, ap, ap₂, ◌∙◌}
use mathlib.Core.Logic.{◌⊎◌, inl, inr}
use mathlib.Core.List.{List, [], ◌∷◌}
use Prim.Native.Nat.{ℕ, zero, suc, ◌+◌, ◌*◌, ◌≤◌, ◌<◌}
use native.Mathlib.Omega.{arith}
use lib.ListN.{length, take, drop}
use lib.Seq.{take-nil, drop-nil}
use Rattle.definitions.specs.Areas.{Areas, at, types, expressions}
use Rattle.definitions.specs.Order.{falling, visits}
use Rattle.definitions.proofs.Tandem.{next-expression, next-type, next-rest}
use Rattle.arena.specs.HandleSet.{member}
use Rattle.arena.specs.declared.handle_set.Bases.{Bases}
use Rattle.trace.specs.Bits.{visit_bits, Visited, sweep_bits, Swept}
use Rattle.tandem.specs.declared.Left.{Left}
use Rattle.tandem.specs.Deps.{dep_before}
use Rattle.tandem.proofs.Filling.{dep_none}
use Rattle.tandem.specs.Visited.{ahead, OneVisit}

module _ (s : Areas) where
  an-expression : (t e : ℕ) → dep_before s t ≤ e → visits s t (suc e) ≡ at expressions e ∷ visits s t e
  unfolding dep_before
  an-expression zero e l = next-rest s e
  an-expression (suc t) e l = next-expression s t e l

  -- no visit is made
  no_more : (n t e : ℕ) → (n ≡ 0) ⊎ (t + e ≡ 0) → (take n (visits s t e) ≡ []) × (drop n (visits s t e) ≡ visits s t e)
  unfolding visits falling
  no_more n t e (inl z) = rw z (refl, refl)
  no_more n t e (inr z) =
      let p : t ≡ 0 = omega arith in
      let q : e ≡ 0 = omega arith in
      rw (p, q) (take-nil n, drop-nil n)

  module _ (b : Bases) where
    -- the youngest expression is visited where it is above dep, else the youngest type
    pub visit-expression : (left : Left) (e : ℕ) {before after : List ℕ} → Visited s b (at expressions e) before after → left.expressions ≡ suc e
        → dep_before s left.types < left.expressions → OneVisit s b left (record { types = left.types; expressions = e }) before after
    visit-expression left e h z l =
        record { element = at expressions e; next = ap (visits s left.types) z ∙ an-expression left.types e (omega arith); marked = h; fewer = omega arith }

    pub visit-type : (left : Left) (t : ℕ) {before after : List ℕ} → Visited s b (at types t) before after → left.types ≡ suc t
        → left.expressions ≤ dep_before s left.types → OneVisit s b left (record { types = t; expressions = left.expressions }) before after
    unfolding dep_before
    visit-type left t h z l =
        record { element = at types t; next = ap (λ u. visits s u left.expressions) z ∙ next-type s t left.expressions (rw z at l); marked = h; fewer = omega arith }

    -- what the contract says of the answer and of the marks
    abbrev pub Pass : Left → ℕ → List ℕ → Left → List ℕ → Type 0
    Pass start budget before left after = (ahead s left ≡ drop budget (ahead s start)) × Swept s b (take budget (ahead s start)) before after

    -- one visit and then k
    pub one-more : {start left : Left} (rest : Left) (n k : ℕ) {before now after : List ℕ}
        → n ≡ suc k → OneVisit s b start left before now → Pass left k now rest after → Pass start n before rest after
    unfolding sweep_bits
    one-more {left = left} rest n k {before} {now} z v p =
        let m : member now ≡ visit_bits s b (64 * length before) (member before) v.element = λ i j. v.marked.holds j i in
        rw (z, v.next) (
          p.0,
          record {
            as_long = p.1.as_long ∙ v.marked.as_long;
            holds = λ j. p.1.holds j ∙ ap₂ (λ m q. sweep_bits s b (64 * m) (take k (ahead s left)) q j) v.marked.as_long m;
          },
        )

    -- none, where the budget is used up or the visits are
    pub at-end : (left : Left) (n : ℕ) {now : List ℕ} → (n ≡ 0) ⊎ (left.types + left.expressions ≡ 0) → Pass left n now left now
    unfolding sweep_bits
    at-end left n z = let e = no_more n left.types left.expressions z in rw e.0 (sym e.1, record { as_long = refl; holds = λ j. refl })

pub ruleset turns = (dep_none, visit-expression, visit-type)
