-- The roots marked and the sweep made over emptied words stand for what is kept; how few records an accepted module has.
-- Assumes nothing.
use mathlib.Core.Path.{◌≡◌, ap, ◌∙◌}
use mathlib.Core.Bool.{Bool}
use mathlib.Core.List.{List, []}
use Prim.Native.Nat.{ℕ, ◌+◌, ◌*◌, ◌≤◌, ◌<◌}
use native.Mathlib.Nat.{le_refl}
use native.Mathlib.Omega.{arith}
use lib.ListN.{length, take, replicate, length-replicate}
use lib.Dec.{lit<}
use Rattle.definitions.specs.Areas.{N, Areas, types, expressions, size, mention_count, records_of, length_of, all_words, widths, marks_words}
use Rattle.definitions.specs.Roots.{roots}
use Rattle.definitions.specs.Order.{visits}
use Rattle.definitions.specs.Sweep.{kept}
use Rattle.definitions.proofs.Accepted.{Sound, facts, area-few, size_few, all_fit}
use Rattle.definitions.proofs.Kept.{roots-inside}
use Rattle.arena.specs.HandleSet.{bases}
use Rattle.arena.specs.declared.handle_set.Bases.{Bases}
use Rattle.arena.specs.Marks.{Marks}
use Rattle.arena.specs.Sizes.{sizes_of, size_in, counted_in}
use Rattle.arena.specs.declared.sizes.Sizes.{Sizes}
use Rattle.arena.proofs.Counting.{sizes-exact}
use Rattle.arena.proofs.Elements.{end-records}
use Rattle.arena.proofs.Marks.{marks-none}
use Rattle.arena.proofs.Sets.{cleared}
use Rattle.trace.specs.Bits.{Marked, Swept, roots_in}
use Rattle.trace.proofs.Bridge.{roots-in, records-few, records-small, root-marks, kept-marks}
use Rattle.tandem.proofs.Laws.{whole-order}
use Rattle.compact.specs.Stages.{Accepts, MarksKept}

-- an accepted module's facts
sound : (s : Areas) → Accepts s → Sound s
sound s a = (facts s a.0 a.1).sound

-- and how few mentions it has
mentions-few : (s : Areas) → Sound s → mention_count s < N
unfolding mention_count records_of length_of all_words widths
mentions-few s c = area-few s c.few 7 (lit< tt)

-- so that the counts are its sizes
sizes-are : (s : Areas) → Accepts s → {z : Sizes} → z ≡ counted_in s → z ≡ sizes_of s
sizes-are s a e =
    let c = sound s a in
    sizes-exact s (λ x. omega (arith, size_few s c.few x)) (omega (arith, mentions-few s c)) e

-- over emptied words the roots and all visits leave what is kept
stages : (s : Areas) → Sound s → (keep : Bool) {before between after : List ℕ} → before ≡ replicate marks_words 0
    → Marked s (bases (size s)) (roots_in s keep (sizes_of s)) before between
    → Swept s (bases (size s)) (take (size s types + size s expressions) (visits s (size s types) (size s expressions))) between after
    → Marks s after (kept s keep)
stages s c keep {before} {between} {after} z r h =
    let small : (bases (size s)).end ≤ 64 * marks_words = omega (arith, records-few s c, all_fit, end-records (size s) (records-small s c)) in
    let wide : length before ≡ marks_words = ap length z ∙ length-replicate {A = ℕ} marks_words 0 in
    let same : length between ≡ marks_words = r.as_long ∙ wide in
    let empty : Marks s before [] = rw z (rw wide at (marks-none s before _ (cleared before))) in
    let m = root-marks s c (roots s keep) (omega arith) (roots-inside s c keep) empty (rw (roots-in s keep) at r) in
    kept-marks s c (roots s keep) (omega arith) m (rw (whole-order s (size s types + size s expressions) (le_refl _)) at h)

-- over emptied words, with what was counted and the bases made of it, they leave what is kept
pub marking : (s : Areas) → Accepts s → (keep : Bool) (z : Sizes) (b : Bases) → z ≡ counted_in s → b ≡ bases (size_in z) → {before between after : List ℕ}
    → before ≡ replicate marks_words 0 → Marked s b (roots_in s keep z) before between
    → Swept s b (take (z.types + z.expressions) (visits s z.types z.expressions)) between after → MarksKept s keep z after
marking s a keep z b ce be e m w =
    let ze = sizes-are s a ce in
    let bd : b ≡ bases (size s) = be ∙ ap (λ y. bases (size_in y)) ze in
    (ze, stages s (sound s a) keep e (rw (ze, bd) at m) (rw (ze, bd) at w))
