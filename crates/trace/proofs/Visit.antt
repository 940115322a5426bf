-- A visit of a record: what it refers to is marked where it is marked itself.
-- Assumes nothing.
use mathlib.Core.Path.{◌≡◌, refl}
use mathlib.Core.Bool.{true}
use mathlib.Core.List.{List, [], ◌∷◌, map}
use Prim.Native.Nat.{ℕ, ◌*◌}
use native.Mathlib.Omega.{arith}
use Rattle.definitions.specs.Areas.{Words, Areas, Arena, at, types, constants, overrides, globals, expressions, words, width}
use Rattle.definitions.specs.Slots.{body, slots, layout}
use Rattle.definitions.specs.References.{has_run, span, run, named_from, references}
use Rattle.definitions.specs.Order.{behind, with_behind}
use Rattle.arena.specs.HandleSet.{bit, member}
use Rattle.arena.specs.declared.handle_set.Bases.{Bases}
use Rattle.slots.specs.Codes.{packed, unpacked, words_from}
use Rattle.slots.proofs.Places.{record-words}
use Rattle.slots.proofs.Laws.{named-shape}
use Rattle.trace.specs.Bits.{bits_of, Put, Marked, visit_bits, Visited}
use Rattle.trace.proofs.Sets.{put-more}
use Rattle.trace.proofs.Behind.{bits-append}

module _ (s : Areas) where
  alone : (a : Arena) → ((h : ℕ) → behind s (at a h) ≡ []) → (l : Words) → with_behind s (map (at a) l) ≡ map (at a) l
  unfolding with_behind
  alone a n [] = refl
  alone a n (h ∷ l) = rw (n h, alone a n l)

  -- nothing stands behind what a run names
  run_alone : (a : Arena) (h : ℕ) → with_behind s (map (at a) (run s a h)) ≡ map (at a) (run s a h)
  unfolding behind run span has_run with_behind
  run_alone types h = alone types (λ h. refl) _
  run_alone constants h = refl
  run_alone overrides h = refl
  run_alone globals h = refl
  run_alone expressions h = alone expressions (λ h. refl) _

pub no_run : (s : Areas) (a : Arena) (h : ℕ) {k : ℕ} → k ≡ span s a h → k ≡ 0 → [] ≡ run s a h
unfolding run
no_run s a h e z = let q : span s a h ≡ 0 = omega arith in rw q

-- record h, read from its place on: the slots and then the run
module _ (s : Areas) (b : Bases) (a : Arena) (h : ℕ) {ws : Words} {wide : ℕ} (e : ws ≡ words s a) (q : wide ≡ width a) where
  pub visited : (shape : ℕ) {r v w u : List ℕ} → shape ≡ packed (body a (words_from ws (h * wide))) → r ≡ run s a h
      → Marked s b (named_from (words_from ws (h * wide)) 0 (unpacked shape 10)) v w → Put (map (bit b) (map (at a) r)) w u
      → true ≡ member v (bit b (at a h)) → Visited s b (at a h) v u
  unfolding visit_bits references layout bits_of
  visited shape {r} {v} {w} {u} t f m n k =
      let f' = words_from ws (h * wide) in
      rw (← k, ← record-words s a h e q, bits-append s b (named_from f' 0 (slots a f')) (map (at a) (run s a h)), named-shape f' a shape t, run_alone s a h, ← f)
      (put-more (bits_of s b (named_from f' 0 (unpacked shape 10))) (map (bit b) (map (at a) r)) m n)
