-- `Sizes::of` meets its contract: each count, kept a word.
-- Assumes nothing.
use mathlib.Core.Path.{◌≡◌, ap, ◌∙◌}
use Prim.Native.Nat.{ℕ, min}
use Rattle.definitions.specs.Areas.{N}
use Rattle.arena.specs.Sizes.{counted_in}
use Rattle.arena.proofs.sizes.Sizes.of.Goals as goal

-- a count of as many
kept : {n m r : ℕ} → n ≡ m → r ≡ min n N → r ≡ min m N
kept p q = q ∙ ap (λ n. min n N) p

pub returns : goal.returns
unfolding counted_in
returns c = λ i. record {
  types = kept c.count.ensures c.counted.ensures i;
  constants = kept c.count-2.ensures c.counted-2.ensures i;
  overrides = kept c.count-3.ensures c.counted-3.ensures i;
  globals = kept c.count-4.ensures c.counted-4.ensures i;
  expressions = kept c.count-5.ensures c.counted-5.ensures i;
  mentions = kept c.count-6.ensures c.counted-6.ensures i;
}
