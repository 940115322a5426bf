-- Marks as bits stand for the definitions' marks: what is marked, a visit, the sweep, and the roots.
-- Assumes nothing.
use mathlib.Core.Path.{◌≡◌, refl, sym, ap₂, subst, ◌∙◌}
use mathlib.Core.Bool.{Bool, true, false, ◌&&◌, ◌||◌}
use mathlib.Core.List.{List, [], ◌∷◌, ◌++◌, map, append-nil}
use Prim.Native.Nat.{ℕ, ◌≤◌, ◌<◌}
use native.Mathlib.Nat.{le_trans}
use native.Mathlib.Omega.{arith}
use lib.Dec.{T, eqb}
use Rattle.std.proofs.lemmas.Bool.Decides.{nat_tests}
use Rattle.definitions.specs.Areas.{Areas, Elem, at, area_number, same, types, constants, overrides, globals, expressions, size, all_records}
use Rattle.definitions.specs.References.{references}
use Rattle.definitions.specs.Roots.{those, common_roots, more_roots, roots}
use Rattle.definitions.specs.Order.{order, with_behind}
use Rattle.definitions.specs.Sweep.{has, visit, sweep, kept_from}
use Rattle.definitions.proofs.Least.{same-eq, here, there, Within, Closed, touched-within, reached-within}
use Rattle.definitions.proofs.Accepted.{Sound, size-limit, all-few}
use Rattle.definitions.proofs.Kept.{Inside, inside-lt, lt-inside, inside-closed}
use Rattle.definitions.proofs.Tandem.{visits-among}
use Rattle.arena.specs.HandleSet.{bases, records, bit, member, room}
use Rattle.arena.specs.Marks.{Marks}
use Rattle.arena.specs.Sizes.{sizes_of}
use Rattle.arena.proofs.Elements.{Below, bit_below, bit-injective}
use Rattle.trace.specs.Bits.{among, added, bits_of, Holds, Put, Marked, visit_bits, sweep_bits, root_in, those_in, roots_in}

-- the roots of a module are those among all its records
pub roots-in : (s : Areas) (keep : Bool) → roots_in s keep (sizes_of s) ≡ roots s keep
unfolding roots_in those_in root_in roots common_roots more_roots those
roots-in s true = refl
roots-in s false = refl

has-append : (l m : List Elem) (x : Elem) → has (l ++ m) x ≡ has l x || has m x
unfolding has
has-append [] m x = refl
has-append (y ∷ l) m x = grind (arith, has-append l m x)

below : (s : Areas) (x : Elem) → Inside s x → Below (size s) x
below s (at a h) i = inside-lt s a h i

-- the set of bits stands for the marks
abbrev Stands : Areas → (ℕ → Bool) → List Elem → Type 0
Stands s p m = (x : Elem) → Inside s x → p (bit (bases (size s)) x) ≡ has m x

module _ (s : Areas) (small : records (size s) < 4294967296) where
  -- elements of the module have the same bit where they are the same
  bit-same : (x y : Elem) → Inside s x → Inside s y → eqb (bit (bases (size s)) x) (bit (bases (size s)) y) ≡ same x y
  unfolding same
  bit-same (at a h) (at b k) i j =
      let e : (eqb (area_number a) (area_number b) && eqb h k) ≡ true → at a h ≡ at b k = λ q. same-eq (at a h) (at b k) (subst T (sym q) tt) in
      grind (arith, nat_tests, e, bit-injective (size s) small (at a h) (at b k) (inside-lt s a h i) (inside-lt s b k j))

  among-has : (xs : List Elem) → Within xs (Inside s) → (y : Elem) → Inside s y → among (map (bit (bases (size s))) xs) (bit (bases (size s)) y) ≡ has xs y
  unfolding among has
  among-has [] w y i = refl
  among-has (x ∷ xs) w y i = ap₂ ◌||◌ (bit-same y x i (w x (here x xs))) (among-has xs (λ z j. w z (there z x xs j)) y i)

  module _ (n : ℕ) (fits : (bases (size s)).end ≤ n) where
    added-stands : (xs m : List Elem) (p : ℕ → Bool) → Within xs (Inside s) → Stands s p m → Stands s (added n (map (bit (bases (size s))) xs) p) (xs ++ m)
    unfolding added
    added-stands xs m p w k y i =
        let l : bit (bases (size s)) y < n = le_trans (bit_below (size s) small y (below s y i)) fits in
        grind (arith, nat_tests, among-has xs w y i, k y i, has-append xs m y, l)

    visit-stands : (x : Elem) (m : List Elem) (p : ℕ → Bool) → Inside s x → Within (with_behind s (references s x)) (Inside s) → Stands s p m
        → Stands s (visit_bits s (bases (size s)) n p x) (visit s m x)
    unfolding visit_bits visit bits_of
    visit-stands x m p i w k y j = grind (arith, k x i, k y j, added-stands (with_behind s (references s x)) m p w k y j)

    sweep-stands : Closed s (Inside s) → (xs m : List Elem) (p : ℕ → Bool) → Within xs (Inside s) → Stands s p m
        → Stands s (sweep_bits s (bases (size s)) n xs p) (sweep s xs m)
    unfolding sweep_bits sweep
    sweep-stands c [] m p w k = k
    sweep-stands c (x ∷ xs) m p w k =
        sweep-stands c xs (visit s m x) (visit_bits s (bases (size s)) n p x) (λ z j. w z (there z x xs j))
        (visit-stands x m p (w x (here x xs)) (λ y r. reached-within s (Inside s) c x y (w x (here x xs)) r) k)

-- elements put in stand for as many marks more
pub marks-added : (s : Areas) (xs m : List Elem) {before after : List ℕ} → records (size s) < 4294967296 → (bases (size s)).end ≤ room before
    → Within xs (Inside s) → Marks s before m → Put (map (bit (bases (size s))) xs) before after → Marks s after (xs ++ m)
marks-added s xs m {before} small fits w k p = record {
  marked = λ x i. p.holds (bit (bases (size s)) x) ∙ added-stands s small (room before) fits xs m (member before) w k.marked x i;
}

order-inside : (s : Areas) → Within (order s) (Inside s)
unfolding order
order-inside s (at types u) h = lt-inside s types u (visits-among s _ _ _ h)
order-inside s (at constants u) h = absurd (visits-among s _ _ _ h)
order-inside s (at overrides u) h = absurd (visits-among s _ _ _ h)
order-inside s (at globals u) h = absurd (visits-among s _ _ _ h)
order-inside s (at expressions u) h = let a = visits-among s _ _ _ h in lt-inside s expressions u a.1

module _ (s : Areas) (c : Sound s) where
  -- a sound module has no more records than the limits allow
  pub records-few : records (size s) ≤ all_records
  unfolding all_records
  records-few =
      let few = size-limit s c.few in
      omega (arith, few types, few constants, few overrides, few globals, few expressions)

  -- so that no sum of them is capped
  pub records-small : records (size s) < 4294967296
  records-small = omega (arith, records-few, all-few)

  -- some visits
  pub sweep-marks : (xs m : List Elem) {before after : List ℕ} → (bases (size s)).end ≤ room before → Within xs (Inside s) → Marks s before m
      → Holds before (sweep_bits s (bases (size s)) (room before) xs (member before)) after → Marks s after (sweep s xs m)
  sweep-marks xs m {before} fits w k p = record {
    marked = λ x i.
        p.holds (bit (bases (size s)) x)
        ∙ sweep-stands s records-small (room before) fits (inside-closed s c) xs m (member before) w k.marked x i;
  }

  module _ (rs : List Elem) {before after : List ℕ} (fits : (bases (size s)).end ≤ room before) where
    -- any roots of the module, put into emptied words
    pub root-marks : Within rs (Inside s) → Marks s before [] → Marked s (bases (size s)) rs before after → Marks s after (with_behind s rs)
    unfolding bits_of
    root-marks w k p =
        subst (Marks s after) (append-nil (with_behind s rs))
        (marks-added s (with_behind s rs) [] records-small fits (touched-within s (Inside s) (inside-closed s c) rs w) k p)

    -- all visits
    pub kept-marks : Marks s before (with_behind s rs) → Holds before (sweep_bits s (bases (size s)) (room before) (order s) (member before)) after
        → Marks s after (kept_from s rs)
    unfolding kept_from
    kept-marks = sweep-marks (order s) (with_behind s rs) fits (order-inside s)
