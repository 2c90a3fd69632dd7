use Rattle.std.proofs.Common.{◌∙◌, sym}
use Rattle.pst_ast.proofs.Ordered.{same_meanings}
use Rattle.pst_ast.proofs.scope_laws.scopes_are_one.Goals as goal

pub returns : goal.returns
returns c = λ units names types others meanings more one other. (
  one.are_types ∙ sym other.are_types,
  same_meanings c.places_are_ordered.ensures.never c.places_are_ordered.ensures.on meanings more one.order other.order
      (λ m has. (other.each m).1 ((one.each m).0 has))
      (λ m has. (one.each m).1 ((other.each m).0 has)),
)
