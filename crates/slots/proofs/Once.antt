-- Each public contract that is no equation with the answer itself allows one outcome.
-- Assumes nothing.
use mathlib.Core.Path.{◌≡◌, refl, ap}
use Rattle.definitions.specs.Areas as areas
use Rattle.definitions.specs.Areas.{Elem, at, types, constants, overrides, globals, expressions}
use Rattle.definitions.specs.Slots as slots
use Rattle.definitions.specs.Slots.{unused, free, below, must, may, start, count}
use Rattle.arena.specs.Elements.{element_of}
use Rattle.arena.specs.declared.Element.{Element}
use Rattle.arena.specs.declared.Element.TheVariants.{«Type», Constant, Override, Global, Expression}
use Rattle.arena.proofs.Once.{read_back}
use Rattle.slots.specs.Codes.{arena_of, slot_of}
use Rattle.slots.specs.declared.Arena.{Arena}
use Rattle.slots.specs.declared.Arena.TheVariants.{Types, Constants, Overrides, Globals, Expressions}
use Rattle.slots.specs.declared.Slot.{Slot}
use Rattle.slots.specs.declared.Slot.TheVariants.{Unused, Free, Below, Must, May, Start, Count}

-- the code's arena, slot and element from document 01's
abbrev to_arena : areas.Arena → Arena
to_arena types = Types
to_arena constants = Constants
to_arena overrides = Overrides
to_arena globals = Globals
to_arena expressions = Expressions

abbrev to_slot : slots.Slot → Slot
to_slot unused = Unused
to_slot free = Free
to_slot (below n) = Below n
to_slot (must a) = Must (to_arena a)
to_slot (may a) = May (to_arena a)
to_slot start = Start
to_slot count = Count

abbrev to_element : Elem → Element
to_element (at types h) = «Type» (record { 0 = h })
to_element (at constants h) = Constant (record { 0 = h })
to_element (at overrides h) = Override (record { 0 = h })
to_element (at globals h) = Global (record { 0 = h })
to_element (at expressions h) = Expression (record { 0 = h })

same-arena : (r : Arena) → to_arena (arena_of r) ≡ r
same-arena Types = refl
same-arena Constants = refl
same-arena Overrides = refl
same-arena Globals = refl
same-arena Expressions = refl

same-slot : (r : Slot) → to_slot (slot_of r) ≡ r
same-slot Unused = refl
same-slot Free = refl
same-slot (Below n) = refl
same-slot (Must a) = ap Must (same-arena a)
same-slot (May a) = ap May (same-arena a)
same-slot Start = refl
same-slot Count = refl

same-element : (r : Element) → to_element (element_of r) ≡ r
same-element («Type» h) = refl
same-element (Constant h) = refl
same-element (Override h) = refl
same-element (Global h) = refl
same-element (Expression h) = refl

-- `arena_at`
pub arena-once : {v : areas.Arena} (r r' : Arena) → arena_of r ≡ v → arena_of r' ≡ v → r ≡ r'
arena-once = read_back arena_of to_arena same-arena

-- `first`
pub slot-once : {v : slots.Slot} (r r' : Slot) → slot_of r ≡ v → slot_of r' ≡ v → r ≡ r'
slot-once = read_back slot_of to_slot same-slot

-- `element`
pub element-once : {v : Elem} (r r' : Element) → element_of r ≡ v → element_of r' ≡ v → r ≡ r'
element-once = read_back element_of to_element same-element
