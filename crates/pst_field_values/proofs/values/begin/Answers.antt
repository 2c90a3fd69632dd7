use Rattle.std.proofs.Common.{length, map, sym, subst}
use Rattle.pst_expr.specs.Tree.{view}
use Rattle.pst_domain.specs.Bounds.{AreUpright}
use Rattle.pst_narrow.specs.Narrowing.{HaveVariablesBelow}
use Rattle.pst_value_search.specs.Values.{Begins}
use Rattle.pst_field_values.proofs.values.begin.Goals as goal

pub new-requires-clause-upright : goal.new-requires-clause-upright
new-requires-clause-upright c = subst AreUpright (sym c.new-bounds.ensures) (subst AreUpright c.as_slice.ensures.value (c.are_upright.ensures c.if-not-are_upright.false))

pub new-requires-clause-variables : goal.new-requires-clause-variables
new-requires-clause-variables c = subst (λ b. HaveVariablesBelow (length b) (map view c.args.written.constraints.items)) (sym c.new-bounds.ensures) c.requires

pub returns : goal.returns
returns c = subst (λ b. Begins c.args.written.constraints.items b c.in_ok-begun.begun) c.new-bounds.ensures c.in_ok-begun.ensures
