-- A test of all words of a record, word by word along its shape.
-- Assumes nothing.
use mathlib.Core.Path.{◌≡◌, refl, ap, ap₂, ◌∙◌}
use mathlib.Core.Bool.{Bool, true, ◌&&◌}
use Prim.Native.Nat.{ℕ, zero, suc, ◌+◌, ◌-◌, ◌/◌, ◌%◌, ◌≤◌, ◌<◌}
use native.Mathlib.Numerals.{add-one}
use native.Mathlib.Omega.{arith}
use Rattle.definitions.specs.Lists.{all}
use Rattle.definitions.specs.Areas.{Areas}
use Rattle.definitions.specs.Slots.{Slot, unused, free}
use Rattle.definitions.specs.References.{named_by}
use Rattle.definitions.specs.Order.{with_behind}
use Rattle.definitions.specs.Refusals.{every}
use Rattle.slots.specs.Codes.{codes, decoded, unpacked}
use Rattle.slots.proofs.Laws.{every-none}
use Rattle.rules.specs.declared.Rule.{Rule}
use Rattle.rules.specs.declared.Rule.TheVariants.{Shaped, Held, Ordered}
use Rattle.rules.specs.Rules.{shaped_by, held_by, asked}

-- no rule asks anything of a tail
pub tail-kept : (s : Areas) (rule : Rule) (w : ℕ) → asked s rule free w ≡ true
unfolding asked shaped_by held_by named_by with_behind all
tail-kept s (Shaped r) w = refl
tail-kept s (Held z) w = refl
tail-kept s (Ordered b) w = refl

-- of a shape that has run out two tests ask the same if they ask the same of unused slots
pub same_unused : (p q : Slot → ℕ → Bool) (f : ℕ → ℕ) → ((w : ℕ) → p unused w ≡ q unused w) → (n k : ℕ) → every p f k (unpacked 0 n) ≡ every q f k (unpacked 0 n)
unfolding every unpacked decoded codes
same_unused p q f e zero k = refl
same_unused p q f e (suc n) k = ap₂ ◌&&◌ (e (f k)) (same_unused p q f e n (suc k))

-- a test of the slots of a shape that are left from word k on
module _ (p : Slot → ℕ → Bool) (f : ℕ → ℕ) (k rest n : ℕ) where
  pub turn : k < n → every p f k (unpacked rest (n - k)) ≡ (p (decoded (rest % 16)) (f k) && every p f (k + 1) (unpacked (rest / 16) (n - (k + 1))))
  unfolding every unpacked
  turn h = let m : n - k ≡ suc (n - (k + 1)) = omega arith in rw (m, ← add-one k)

  pub done : n ≤ k → every p f k (unpacked rest (n - k)) ≡ true
  unfolding every unpacked
  done h = let m : n - k ≡ 0 = omega arith in rw m

  -- no named slot is left
  pub none_left : rest ≡ 0 → ((w : ℕ) → p unused w ≡ true) → every p f k (unpacked rest (n - k)) ≡ true
  none_left e u = ap (λ r. every p f k (unpacked r (n - k))) e ∙ every-none p f u (n - k) k

pub ruleset steps = (turn, done, none_left, same_unused)
