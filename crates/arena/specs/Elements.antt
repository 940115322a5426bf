-- The element of the definitions that an `Element` is, and its handle.
-- Assumes nothing.
use Rattle.std.specs.Prelude.{ℕ}
use Rattle.definitions.specs.Areas.{Elem, at, types, constants, overrides, globals, expressions}
use Rattle.arena.specs.declared.Element.{Element}
use Rattle.arena.specs.declared.Element.TheVariants.{«Type», Constant, Override, Global, Expression}

abbrev pub element_of : Element → Elem
element_of («Type» h) = at types h.0
element_of (Constant h) = at constants h.0
element_of (Override h) = at overrides h.0
element_of (Global h) = at globals h.0
element_of (Expression h) = at expressions h.0

-- an element's handle, as a word
abbrev pub handle_of : Elem → ℕ
handle_of (at a h) = h
