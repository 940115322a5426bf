-- A record whose words are good at once keeps each of the rules, and its kind is a module's.
-- Assumes nothing.
use mathlib.Core.Path.{◌≡◌, sym, subst}
use mathlib.Core.Bool.{Bool, true, false, ◌&&◌, ◌||◌, cond}
use mathlib.Core.List.{List, [], ◌∷◌}
use Prim.Native.Nat.{ℕ, suc, ◌≤◌, ◌<◌}
use native.Mathlib.Nat.{le_trans}
use lib.Dec.{T, eqb, ltb, ltb→lt, lt→ltb}
use Rattle.definitions.specs.Lists.{all}
use Rattle.definitions.specs.Areas.{N, Areas, Arena, at, types, constants, overrides, globals, expressions, word}
use Rattle.definitions.specs.Slots.{Slot, unused, free, below, must, may, start, count, fill, expr_slots, expr_body, body, slots}
use Rattle.definitions.specs.References.{named_by}
use Rattle.definitions.specs.Order.{with_behind}
use Rattle.definitions.specs.Refusals.{every}
use Rattle.definitions.proofs.Least.{and_left, and_right}
use Rattle.definitions.proofs.Least.{both}
use Rattle.arena.specs.Sizes.{size_in}
use Rattle.slots.proofs.Laws.{every-tail}
use Rattle.rules.specs.declared.Limits.{Limits}
use Rattle.rules.specs.declared.Bounds.{Bounds}
use Rattle.rules.specs.declared.Rule.{Rule}
use Rattle.rules.specs.declared.Rule.TheVariants.{Shaped, Held, Ordered}
use Rattle.rules.specs.Rules.{shaped_by, held_by, within, asked, fit_by, good_by}
use Rattle.rules.proofs.Behind.{fits, of-type, of-expression, of-constant, of-override}
use Rattle.rules.proofs.Every.{tail-kept}

-- a test that follows from another, asked of all words
pub every-from : (p q : Slot → ℕ → Bool) (f : ℕ → ℕ) → ((x : Slot) (w : ℕ) → T (p x w) → T (q x w)) → (k : ℕ) (xs : List Slot) → T (every p f k xs) → T (every q f k xs)
unfolding every
every-from p q f u k [] t = tt
every-from p q f u k (x ∷ xs) t =
    both (q x (f k)) (every q f (suc k) xs) (u x (f k) (and_left (p x (f k)) _ t)) (every-from p q f u (suc k) xs (and_right (p x (f k)) _ t))

-- where the limits are enough for a rule
abbrev pub Enough : Limits → Rule → Type 0
Enough l (Shaped r) = l.run ≡ r
Enough l (Held z) = (l.types ≤ z.types) × (l.constants ≤ z.constants) × (l.overrides ≤ z.overrides) × (l.expressions ≤ z.expressions)
Enough l (Ordered b) = ((u : ℕ) → u < l.types → T (within b (at types u))) × ((e : ℕ) → e < l.expressions → T (within b (at expressions e)))

raised : (w m n : ℕ) → m ≤ n → T (ltb w m) → T (ltb w n)
raised w m n l t = lt→ltb w n (le_trans (ltb→lt w m t) l)

either : (a b c : Bool) → (T b → T c) → T (a || b) → T (a || c)
either true b c f t = tt
either false b c f t = f t

unless : (a b c : Bool) → (T b → T c) → T (a || b) → T (cond a true c)
unless true b c f t = tt
unless false b c f t = f t

module _ (s : Areas) (l : Limits) where
  good-shaped : (x : Slot) (w : ℕ) → T (good_by s l x w) → T (shaped_by l.run x w)
  unfolding good_by shaped_by
  good-shaped unused w t = t
  good-shaped free w t = tt
  good-shaped (below n) w t = t
  good-shaped (must a) w t = tt
  good-shaped (may a) w t = tt
  good-shaped start w t = t
  good-shaped count w t = tt

  module _ (n : Arena → ℕ) (p : l.types ≤ n types) (q : l.constants ≤ n constants) (r : l.overrides ≤ n overrides) (e : l.expressions ≤ n expressions) where
    fit-held : (a : Arena) (w : ℕ) → T (fit_by s l a w) → T (ltb w (n a))
    unfolding fit_by
    fit-held types w t = raised w _ _ p t
    fit-held constants w t = raised w _ _ q (and_left (ltb w l.constants) _ t)
    fit-held overrides w t = raised w _ _ r (and_left (ltb w l.overrides) _ t)
    fit-held globals w t = absurd t
    fit-held expressions w t = raised w _ _ e t

    good-held : (x : Slot) (w : ℕ) → T (good_by s l x w) → T (held_by n x w)
    unfolding good_by held_by
    good-held unused w t = tt
    good-held free w t = tt
    good-held (below n) w t = tt
    good-held (must a) w t = fit-held a w t
    good-held (may a) w t = unless (eqb w N) _ _ (fit-held a w) t
    good-held start w t = tt
    good-held count w t = tt

  module _ (b : Bounds) (p : (u : ℕ) → u < l.types → T (within b (at types u))) (e : (i : ℕ) → i < l.expressions → T (within b (at expressions i))) where
    abbrev Fits : Arena → ℕ → Type 0
    Fits a w = T (fits b s (at a w ∷ []))

    fit-ordered : (a : Arena) (w : ℕ) → T (fit_by s l a w) → Fits a w
    unfolding fit_by
    fit-ordered types w t = subst T (of-type b s w) (p w (ltb→lt w _ t))
    fit-ordered constants w t =
        let y = word s constants w 1 in
        let i = word s constants w 2 in
        let u = and_right (ltb w l.constants) (ltb y l.types && ltb i l.expressions) t in
        subst T (sym (of-constant b s w))
        (both (within b (at types y)) (within b (at expressions i)) (p y (ltb→lt y l.types (and_left (ltb y l.types) (ltb i l.expressions) u)))
        (e i (ltb→lt i l.expressions (and_right (ltb y l.types) (ltb i l.expressions) u))))
    fit-ordered overrides w t =
        let y = word s overrides w 1 in
        let i = word s overrides w 2 in
        let u = and_right (ltb w l.overrides) (ltb y l.types && (eqb i N || ltb i l.expressions)) t in
        subst T (sym (of-override b s w))
        (both (within b (at types y)) (eqb i N || within b (at expressions i)) (p y (ltb→lt y l.types (and_left (ltb y l.types) (eqb i N || ltb i l.expressions) u)))
        (either (eqb i N) (ltb i l.expressions) (within b (at expressions i)) (λ v. e i (ltb→lt i l.expressions v))
        (and_right (ltb y l.types) (eqb i N || ltb i l.expressions) u)))
    fit-ordered globals w t = absurd t
    fit-ordered expressions w t = subst T (of-expression b s w) (e w (ltb→lt w _ t))

    good-ordered : (x : Slot) (w : ℕ) → T (good_by s l x w) → T (fits b s (named_by x w))
    unfolding good_by named_by with_behind all
    good-ordered unused w t = tt
    good-ordered free w t = tt
    good-ordered (below n) w t = tt
    good-ordered (must a) w t = fit-ordered a w t
    good-ordered (may a) w t = go (eqb w N) t
      where
        go : (b' : Bool) → T (b' || fit_by s l a w) → T (fits b s (cond b' [] (at a w ∷ [])))
        go true t = tt
        go false t = fit-ordered a w t
    good-ordered start w t = tt
    good-ordered count w t = tt

  good-asked : (rule : Rule) → Enough l rule → (x : Slot) (w : ℕ) → T (good_by s l x w) → T (asked s rule x w)
  unfolding asked
  good-asked (Shaped r) h x w t = subst (λ r. T (shaped_by r x w)) h (good-shaped x w t)
  good-asked (Held z) h x w t = good-held (size_in z) h.0 h.1 h.2 h.3 x w t
  good-asked (Ordered b) h x w t = good-ordered b h.0 h.1 x w t

  -- a record whose words are good keeps every rule that the limits are enough for
  pub good-keeps : (rule : Rule) → Enough l rule → (a : Arena) (f : ℕ → ℕ) → T (every (good_by s l) f 0 (body a f)) → T (every (asked s rule) f 0 (slots a f))
  unfolding slots
  good-keeps rule h a f t = subst T (sym (every-tail (asked s rule) f (tail-kept s rule) (body a f) 0)) (every-from _ _ f (good-asked rule h) 0 (body a f) t)

  -- and is of no kind that number 5 refuses
  pub good-kind : (f : ℕ → ℕ) → T (every (good_by s l) f 0 (body expressions f)) → (f 0 ≡ 13 → ⊥) × (f 0 ≡ 27 → ⊥)
  unfolding body expr_body expr_slots fill every good_by
  good-kind f t = ((λ e. rw e at t), (λ e. rw e at t))
