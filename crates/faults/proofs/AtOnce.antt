-- Numbers 4 to 7 at once: a record that passes is good under each of them. Assumes nothing.
use Rattle.std.proofs.Common.{◌≡◌, refl, true, ◌&&◌, ◌⊎◌, List, [], ◌∷◌, ℕ, ◌≤◌, ◌<◌, min, arith, T, ltb, lt→ltb, length}
use lib.Ieee.Bits.{is_true}
use Rattle.std.proofs.lemmas.Float.{T_from_true}
use Rattle.definitions.specs.Lists.{all}
use Rattle.definitions.specs.Areas.{Areas, Arena, types, expressions, numbered, word, size, pool}
use Rattle.definitions.specs.Slots.{body, layout}
use Rattle.definitions.specs.References.{span, run}
use Rattle.definitions.specs.Refusals.{accepted, refused, every, runs_before, shaped_at, of_module, held_at}
use Rattle.definitions.specs.Order.{well_ordered}
use Rattle.definitions.proofs.Least.{and_left, and_right}
use Rattle.definitions.proofs.Judged.{scan-says}
use Rattle.rules.specs.declared.Limits.{Limits}
use Rattle.rules.specs.declared.Run.{Run}
use Rattle.rules.specs.declared.Rule.{Rule}
use Rattle.rules.specs.declared.Rule.TheVariants.{Shaped, Held, Ordered}
use Rattle.arena.specs.Sizes.{sizes_of, size_in}
use Rattle.rules.specs.Rules.{within, good_by, leading}
use Rattle.rules.proofs.Laws.{size_in_lem, leading_le}
use Rattle.rules.proofs.AtOnce.{Enough, good-keeps, good-kind}
use Rattle.faults.specs.Measured.{Measured}
use Rattle.faults.specs.Checking.{ok4, ok6, most, limits_at, bounds_at, looks_at, ok_at, carried_to, places_at, in_turn, scan_area, Passed, Used}
use Rattle.faults.proofs.Opened.{places}
use Rattle.faults.proofs.Scans.{turns-accepted}
use Rattle.faults.proofs.Records.{keeps, records, held_run}

-- a list below a bound is below a larger one
all-raised : (m n : ℕ) → m ≤ n → (l : List ℕ) → all (λ w. ltb w m) l ≡ true → all (λ w. ltb w n) l ≡ true
unfolding all
all-raised m n h [] t = refl
all-raised m n h (w ∷ l) t = grind (arith, all-raised m n h l)

module _ (s : Areas) (area i : ℕ) where
  abbrev own : Arena
  own = numbered area

  abbrev led : ℕ
  led = leading s i 0 (size s types)

  abbrev runs : Run
  runs = record { sum = min (runs_before s own i) most; span = span s own i; room = length (pool s own) }

  abbrev its : Limits
  its = limits_at area i led (sizes_of s) runs

  module _ (m : Measured s) (few : area < 5) (there : i < size s own) where
    module _ (good : T (every (good_by s its) (word s own i) 0 (body own (word s own i)))) (below : all (λ x. ltb x i) (run s own i) ≡ true) where
      kept : (rule : Rule) → Enough its rule → keeps s rule own i ≡ true
      unfolding layout
      kept rule h = is_true _ (good-keeps s its rule h own (word s own i) good)

      four : shaped_at s own i ≡ true
      unfolding limits_at
      four = let k = kept (Shaped runs) refl in grind (arith, records, k)

      five : area ≡ 4 → of_module s expressions i ≡ true
      unfolding of_module numbered
      five a = let k = good-kind s _ (word s expressions i) (rw a at good) in grind (arith, k)

      six : held_at s own i ≡ true
      unfolding held_at limits_at numbered
      six =
          let k = kept (Held (sizes_of s)) (grind (arith, leading_le)) in
          let r = held_run s own i (size_in (sizes_of s) own) refl in
          let b = all-raised i (size_in (sizes_of s) own) (omega (arith, size_in_lem s own)) (run s own i) below in
          grind (arith, records, k, r, b)

      seven : (area ≡ 0) ⊎ (area ≡ 4) → well_ordered s own i ≡ true
      unfolding limits_at bounds_at within
      seven o =
          let k = kept (Ordered (bounds_at area i led (size s types))) ((λ u l. grind (arith, lt→ltb)), (λ e l. grind (arith, lt→ltb))) in
          grind (arith, records, k)

    -- it is good under each number that looks at the arena
    pub passed : (n : ℕ) → 4 ≤ n → n < 8 → looks_at n area ≡ true
        → (every (good_by s its) (word s own i) 0 (body own (word s own i)) && all (λ x. ltb x i) (run s own i)) ≡ true → ok_at s n area i ≡ true
    unfolding ok_at ok4 ok6 looks_at
    passed n l h x t =
        let g = every (good_by s its) (word s own i) 0 (body own (word s own i)) in
        let b = all (λ x. ltb x i) (run s own i) in
        let v : T (g && b) = T_from_true (g && b) t in
        let good : T g = and_left g b v in
        let below : b ≡ true = is_true b (and_right g b v) in
        grind (arith, four good below, five good below, six good below, seven good below)

-- what the walk has seen of an arena before record i: the counts, the leading types, and that all are good
pub record Walked (s : Areas) (area i sum before : ℕ) : Type 0 where
  pub counted : sum ≡ min (runs_before s (numbered area) i) most
  pub leads : before ≡ (carried_to s 7 area i).types
  pub good : (j n : ℕ) → j < i → 4 ≤ n → n < 8 → looks_at n area ≡ true → ok_at s n area j ≡ true

-- a module all of whose arenas and mentions pass has no fault
pub no-fault : (s : Areas) → ((a : ℕ) → a < 5 → Passed s a × Used s (numbered a)) → Passed s 7 → (n : ℕ) → 4 ≤ n → n < 8 → in_turn (scan_area s n) 0 8 ≡ accepted
unfolding scan_area places
no-fault s f g n l h =
    turns-accepted (scan_area s n) 0 8 (λ a x y. scan-says (λ v. v ≡ accepted) (ok_at s n a) (refused n a) (places_at s n a) refl (λ i u x. absurd (x (T_from_true _ (each a i y u)))))
  where
    each : (a i : ℕ) → a < 8 → i < places_at s n a → ok_at s n a i ≡ true
    each a i y u = grind (arith, f, g)
