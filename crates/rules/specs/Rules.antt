-- What the contracts of this crate cite beside the definitions of document 01: numbers 4, 6 and 7 of one record.
-- Assumes nothing.
use Rattle.std.specs.Prelude.{Bool, true, false, ◌&&◌, ◌||◌, cond, Option, None, Some, ℕ, zero, suc, ◌+◌, eqb, ltb, leb}
use Rattle.definitions.specs.Lists.{all}
use Rattle.definitions.specs.Areas.{N, Areas, Elem, at, word}
use Rattle.definitions.specs.Areas.{Arena, types, constants, overrides, globals, expressions}
use Rattle.definitions.specs.Slots.{Slot, unused, free, below, must, may, start, count}
use Rattle.definitions.specs.References.{named_by}
use Rattle.definitions.specs.Order.{sized_by, with_behind}
use Rattle.arena.specs.Sizes.{size_in}
use Rattle.rules.specs.declared.Bounds.{Bounds}
use Rattle.rules.specs.declared.Run.{Run}
use Rattle.rules.specs.declared.Limits.{Limits}
use Rattle.rules.specs.declared.Rule.{Rule}
use Rattle.rules.specs.declared.Rule.TheVariants.{Shaped, Held, Ordered}

-- number 4: `shaped`, given the sum of the counts before, the record's own count and the pool's length
unfoldable pub shaped_by : Run → Slot → ℕ → Bool
shaped_by r unused w = eqb w N
shaped_by r free w = true
shaped_by r (below n) w = ltb w n
shaped_by r (must b) w = true
shaped_by r (may b) w = true
shaped_by r start w = eqb w r.sum && leb (w + r.span) r.room
shaped_by r count w = true

-- number 6: `held`, given how many records each arena has
unfoldable pub held_by : (Arena → ℕ) → Slot → ℕ → Bool
held_by n unused w = true
held_by n free w = true
held_by n (below k) w = true
held_by n (must a) w = ltb w (n a)
held_by n (may a) w = cond (eqb w N) true (ltb w (n a))
held_by n start w = true
held_by n count w = true

-- is a handle below the bound, where there is one ?
abbrev pub bounded : Option ℕ → ℕ → Bool
bounded None h = true
bounded (Some n) h = ltb h n

-- number 7: `later`, given below which type and which expression an element must lie, if it must
unfoldable pub within : Bounds → Elem → Bool
within b (at types u) = bounded b.types u
within b (at constants h) = true
within b (at overrides h) = true
within b (at globals h) = true
within b (at expressions i) = bounded b.expressions i

-- what a rule asks of a word of the module
unfoldable pub asked : Areas → Rule → Slot → ℕ → Bool
asked s (Shaped r) l w = shaped_by r l w
asked s (Held z) l w = held_by (size_in z) l w
asked s (Ordered b) l w = all (within b) (with_behind s (named_by l w))

-- numbers 4 to 7 at once: a type and an init within the limits; unless it has to be there the init may be N
abbrev pub typed_fits : Limits → Bool → ℕ → ℕ → Bool
typed_fits l present t e = ltb t l.types && (cond present false (eqb e N) || ltb e l.expressions)

-- does an element, with all that stands behind it, lie within the limits ? No slot names a global
unfoldable pub fit_by : Areas → Limits → Arena → ℕ → Bool
fit_by s l types h = ltb h l.types
fit_by s l constants h = ltb h l.constants && typed_fits l true (word s constants h 1) (word s constants h 2)
fit_by s l overrides h = ltb h l.overrides && typed_fits l false (word s overrides h 1) (word s overrides h 2)
fit_by s l globals h = false
fit_by s l expressions h = ltb h l.expressions

-- is a word good under each of the numbers ? Only the kinds of number 5 have free slots before the tail
unfoldable pub good_by : Areas → Limits → Slot → ℕ → Bool
good_by s l unused w = eqb w N
good_by s l free w = false
good_by s l (below n) w = ltb w n
good_by s l (must a) w = fit_by s l a w
good_by s l (may a) w = eqb w N || fit_by s l a w
good_by s l start w = eqb w l.run.sum && leb (w + l.run.span) l.run.room
good_by s l count w = true

-- the word of an unused slot
unfoldable pub empty : Slot → ℕ → Bool
empty l w = eqb w N

-- the types up to the first that is sized by an override with an init not below e: n of them at most, from t on
unfoldable pub leading : Areas → ℕ → ℕ → ℕ → ℕ
leading s e t zero = t
leading s e t (suc n) = cond (leb (sized_by s t) e) (leading s e (suc t) n) t
