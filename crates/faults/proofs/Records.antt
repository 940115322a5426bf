-- One record under numbers 4, 6 and 7: what crate `rules` asks of its words and its run is what document 01 asks. Assumes nothing.
use Rattle.std.proofs.Common.{◌≡◌, refl, sym, ap, ap₂, ◌∙◌, Bool, ◌&&◌, ◌⊎◌, List, [], ◌∷◌, ◌++◌, map, ℕ, min, arith, ltb, length}
use Rattle.definitions.specs.Lists.{all}
use Rattle.definitions.specs.Areas.{Words, Areas, Arena, Elem, at, types, numbered, word, pool, size}
use Rattle.definitions.specs.Slots.{Slot, layout}
use Rattle.definitions.specs.References.{span, run, named_by, named_from, references}
use Rattle.definitions.specs.Order.{behind, with_behind, later, well_ordered}
use Rattle.definitions.specs.Refusals.{every, held, inside, runs_before, shaped_at}
use Rattle.slots.proofs.Laws.{behind-append}
use Rattle.arena.specs.Sizes.{sizes_of, size_in}
use Rattle.rules.specs.declared.Bounds.{Bounds}
use Rattle.rules.specs.declared.Run.{Run}
use Rattle.rules.specs.declared.Rule.{Rule}
use Rattle.rules.specs.declared.Rule.TheVariants.{Shaped, Held, Ordered}
use Rattle.rules.specs.Rules.{within, asked, leading}
use Rattle.rules.proofs.Laws.{size_in_lem, held_by_lem, shaped-by, ordered-list, leading-dep}
use Rattle.faults.specs.Measured.{Measured}
use Rattle.faults.specs.Checking.{bounds_at, most}
use Rattle.faults.proofs.Arenas.{room_fits}

-- what `rules` answers of the words of record i
abbrev pub keeps : Areas → Rule → Arena → ℕ → Bool
keeps s rule a i = every (asked s rule) (word s a i) 0 (layout s a i)

-- number 4
pub shaped_law : (s : Areas) (r : Run) (a : Arena) (i : ℕ) → Measured s → r.sum ≡ min (runs_before s a i) most → r.span ≡ span s a i → r.room ≡ length (pool s a)
    → keeps s (Shaped r) a i ≡ shaped_at s a i
unfolding shaped_at asked
shaped_law s r a i m p q e =
    sym (λ k. every (λ l w. shaped-by s a i r (omega (arith, room_fits s a m)) p q e l w k) (word s a i) 0 (layout s a i))

-- number 6, of words and of a run
pub held_words : (s : Areas) (f : ℕ → ℕ) (k : ℕ) (l : List Slot) → every (asked s (Held (sizes_of s))) f k l ≡ every (held s) f k l
unfolding asked
held_words s f k l = sym (λ j. every (λ x w. held_by_lem s x w j) f k l)

pub held_run : (s : Areas) (a : Arena) (i n : ℕ) → n ≡ size_in (sizes_of s) a → all (λ w. ltb w n) (run s a i) ≡ all (λ w. inside s (at a w)) (run s a i)
unfolding inside
held_run s a i n e = ap (λ n. all (λ w. ltb w n) (run s a i)) (e ∙ sym (size_in_lem s a))

all_append : (p : Elem → Bool) (l r : List Elem) → all p (l ++ r) ≡ all p l && all p r
unfolding all
all_append p [] r = refl
all_append p (x ∷ l) r = grind (arith, all_append p l r)

-- number 7, of types and expressions
module _ (s : Areas) (area i : ℕ) (m : Measured s) (o : (area ≡ 0) ⊎ (area ≡ 4)) where
  abbrev own : Arena
  own = numbered area

  abbrev bounds : Bounds
  bounds = bounds_at area i (leading s i 0 (size s types)) (size s types)

  later-within : (y : Elem) → later s (at own i) y ≡ within bounds y
  unfolding bounds_at within later numbered
  later-within y = grind (arith, leading-dep s m.whole i)

  -- a run of them has nothing behind it
  all-run : (ws : Words) → all (later s (at own i)) (with_behind s (map (at own) ws)) ≡ all (λ w. ltb w i) ws
  unfolding all with_behind behind later numbered
  all-run [] = refl
  all-run (w ∷ ws) = grind (arith, all-run ws)

  pub ordered_law : well_ordered s own i ≡ keeps s (Ordered bounds) own i && all (λ w. ltb w i) (run s own i)
  unfolding well_ordered references asked
  ordered_law =
      let p = later s (at own i) in
      ap (all p) (behind-append s (named_from (word s own i) 0 (layout s own i)) (map (at own) (run s own i)))
      ∙ all_append p _ _
      ∙ ap₂ ◌&&◌
      (ordered-list p s (word s own i) 0 (layout s own i) ∙ λ k. every (λ x w. all (λ y. later-within y k) (with_behind s (named_by x w))) (word s own i) 0 (layout s own i))
      (all-run (run s own i))

pub ruleset records = (shaped_law, held_words, ordered_law)
