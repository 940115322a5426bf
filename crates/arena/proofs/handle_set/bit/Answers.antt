-- Each arm is given which element x is. Assumes nothing.
use mathlib.Core.Path.{◌≡◌, sym, ap, ◌∙◌}
use Prim.Native.Nat.{ℕ}
use Rattle.arena.specs.declared.Element.{Element}
use Rattle.arena.specs.declared.handle_set.Bases.{Bases}
use Rattle.arena.specs.Elements.{element_of}
use Rattle.arena.specs.HandleSet.{bit}
use Rattle.arena.proofs.handle_set.bit.Goals as goal

-- what holds of the element that the arm names holds of x
arm : (b : Bases) {x e : Element} {r : ℕ} → x ≡ e → r ≡ bit b (element_of e) → r ≡ bit b (element_of x)
arm b p q = q ∙ sym (ap (λ (e : Element). bit b (element_of e)) p)

pub returns-in-Type : goal.returns-in-Type
returns-in-Type c = arm c.args.b c.in-Type.is c.sum.ensures

pub returns-in-Constant : goal.returns-in-Constant
returns-in-Constant c = arm c.args.b c.in-Constant.is c.sum-in-Constant.ensures

pub returns-in-Override : goal.returns-in-Override
returns-in-Override c = arm c.args.b c.in-Override.is c.sum-in-Override.ensures

pub returns-in-Global : goal.returns-in-Global
returns-in-Global c = arm c.args.b c.in-Global.is c.sum-in-Global.ensures

pub returns-in-Expression : goal.returns-in-Expression
returns-in-Expression c = arm c.args.b c.in-Expression.is c.sum-in-Expression.ensures
