-- The bits of the elements: each lies below the end, no two elements share one, and what `insert` does to each.
-- Assumes nothing.
use mathlib.Core.Path.{◌≡◌, refl, ap, ap₂, sym, subst, ◌∙◌}
use Prim.Native.Nat.{ℕ, ◌+◌, ◌≤◌, ◌<◌}
use native.Mathlib.Decide.{dec_lt}
use native.Mathlib.Omega.{arith}
use lib.Dec.{lit<}
use Rattle.definitions.specs.Lists.{always, total}
use Rattle.definitions.specs.Areas.{Arena, types, constants, overrides, globals, expressions, area_number, numbered, Elem, at}
use Rattle.definitions.proofs.Least.{numbered-number}
use Rattle.definitions.proofs.ListLaws.{total-share}
use Rattle.arena.specs.HandleSet.{bases, records, base, bit}

-- the handle is below its arena's count
abbrev pub Below : (Arena → ℕ) → Elem → Type 0
Below n (at a h) = h < n a

-- the sum of the counts before an arena, by its number
abbrev start : (Arena → ℕ) → ℕ → ℕ
start n k = total always (λ i. n (numbered i)) k

number_lt : (a : Arena) → area_number a < 5
unfolding area_number
number_lt types = lit< tt
number_lt constants = lit< tt
number_lt overrides = lit< tt
number_lt globals = lit< tt
number_lt expressions = lit< tt

-- the bits of an arena end before those of a later one begin
share : (n : Arena → ℕ) (a : Arena) (k : ℕ) → area_number a < k → start n (area_number a) + n a ≤ start n k
share n a k l =
    subst (λ (b : Arena). start n (area_number a) + n b ≤ start n k) (numbered-number a)
    (total-share always (λ i. n (numbered i)) (area_number a) k tt l)

module _ (n : Arena → ℕ) (small : records n < 4294967296) where
  -- no sum is capped
  base-start : (a : Arena) → base (bases n) a ≡ start n (area_number a)
  unfolding total numbered area_number
  base-start types = refl
  base-start constants = omega arith
  base-start overrides = omega arith
  base-start globals = omega arith
  base-start expressions = omega arith

  -- the bits end where the records do
  pub end-records : (bases n).end ≡ records n
  end-records = omega arith

  end-start : (bases n).end ≡ start n 5
  unfolding total numbered
  end-start = omega arith

  -- every bit lies below the end
  pub bit_below : (x : Elem) → Below n x → bit (bases n) x < (bases n).end
  bit_below (at a h) l = omega (arith, base-start a, end-start, share n a 5 (number_lt a))

  -- no two elements share a bit
  pub bit-injective : (x y : Elem) → Below n x → Below n y → bit (bases n) x ≡ bit (bases n) y → x ≡ y
  bit-injective (at a h) (at b k) l m e =
      elim (dec_lt (area_number a) (area_number b)) [
        | yes p ↦ absurd (omega (arith, base-start a, base-start b, share n a (area_number b) p))
        | no p ↦ elim (dec_lt (area_number b) (area_number a)) [
          | yes q ↦ absurd (omega (arith, base-start a, base-start b, share n b (area_number a) q))
          | no q ↦
              let i : area_number a ≡ area_number b = omega arith in
              let j : h ≡ k = omega (arith, base-start a, base-start b, ap (start n) i) in
              ap₂ at (sym (numbered-number a) ∙ ap numbered i ∙ numbered-number b) j
        ]
      ]
