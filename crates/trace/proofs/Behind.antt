-- Elements with all that is marked with them: one element, by its arena, and some and then more.
-- Assumes nothing.
use mathlib.Core.Path.{◌≡◌, ap, ◌∙◌}
use mathlib.Core.List.{List, [], ◌∷◌, ◌++◌, map, map-append, append-nil}
use Prim.Native.Nat.{ℕ}
use Rattle.definitions.specs.Areas.{Areas, Elem, at, types, constants, overrides, globals, expressions, word}
use Rattle.definitions.specs.Slots.{may, slots, body, layout}
use Rattle.definitions.specs.References.{has_run, span, run, named_by, named_from, references}
use Rattle.definitions.specs.Order.{behind, with_behind}
use Rattle.arena.specs.HandleSet.{bit, Inserted}
use Rattle.arena.specs.declared.handle_set.Bases.{Bases}
use Rattle.slots.specs.Codes.{codes, decoded}
use Rattle.slots.proofs.Laws.{behind-append}
use Rattle.trace.specs.Bits.{bits_of, Put, Marked}
use Rattle.trace.proofs.Sets.{put-none, put_one, put-more}

-- opens what is marked with an element
unfoldable pub opened : ℕ
unfolding bits_of with_behind behind references named_from named_by layout slots body run span has_run
opened = 0

-- opens what is marked for a slot's code
unfoldable pub coded : ℕ
unfolding bits_of with_behind behind decoded codes named_by
coded = 0

pub bits-append : (s : Areas) (b : Bases) (l r : List Elem) → bits_of s b (l ++ r) ≡ bits_of s b l ++ bits_of s b r
unfolding bits_of
bits-append s b l r = ap (map (bit b)) (behind-append s l r) ∙ map-append (bit b) (with_behind s l) (with_behind s r)

-- no element is marked
pub marked-none : (s : Areas) (b : Bases) (v : List ℕ) → Marked s b [] v v
unfolding bits_of with_behind
marked-none s b v = put-none v

-- some elements are marked and then more
pub marked_more : (s : Areas) (b : Bases) (xs ys : List Elem) {v w u : List ℕ} → Marked s b xs v w → Marked s b ys w u → Marked s b (xs ++ ys) v u
marked_more s b xs ys {v} {w} {u} p q = rw (bits-append s b xs ys) (put-more (bits_of s b xs) (bits_of s b ys) p q)

-- an element is put in, and then its type and its init
module _ (s : Areas) (b : Bases) (h : ℕ) {t : ℕ} {v w u : List ℕ} where
  pub marked-constant : {e : ℕ} → Inserted v (bit b (at constants h)) w
      → Put (map (bit b) (at types t ∷ at expressions e ∷ [])) w u
      → t ≡ word s constants h 1 → e ≡ word s constants h 2 → Marked s b (at constants h ∷ []) v u
  unfolding opened
  marked-constant p q e f = rw (← e, ← f) (put-more (_ ∷ []) _ (put_one p) q)

  pub marked-override : {e : ℕ} {l : List Elem} → Inserted v (bit b (at overrides h)) w → Put (map (bit b) (at types t ∷ l)) w u
      → t ≡ word s overrides h 1 → e ≡ word s overrides h 2 → l ≡ named_by (may expressions) e → Marked s b (at overrides h ∷ []) v u
  unfolding opened
  marked-override {l = l} p q e f g = rw (← e, ← f, ← g, append-nil ((l ++ []) ++ []), append-nil (l ++ []), append-nil l) (put-more (bit b (at overrides h) ∷ []) (map (bit b) (at types t ∷ l)) (put_one p) q)

  pub marked-global : {e : ℕ} {l : List Elem} → Inserted v (bit b (at globals h)) w → Put (map (bit b) (at types t ∷ l)) w u
      → t ≡ word s globals h 0 → e ≡ word s globals h 1 → l ≡ named_by (may expressions) e → Marked s b (at globals h ∷ []) v u
  unfolding opened
  marked-global {l = l} p q e f g = rw (← e, ← f, ← g, append-nil ((l ++ []) ++ []), append-nil (l ++ []), append-nil l) (put-more (bit b (at globals h) ∷ []) (map (bit b) (at types t ∷ l)) (put_one p) q)

pub ruleset ones = (marked-constant, marked-override, marked-global)
