use Rattle.std.proofs.Common.{length, ◌+◌, ◌-◌, ◌*◌}
use Rattle.std.specs.Prelude.{map}
use Rattle.pst_token.specs.declared.kind.Kind.TheVariants as kind
use Rattle.pst_ast.specs.ConstraintView.{view_constraint_item}
use Rattle.pst_reading.proofs.Lists.{ListLoop}
use Rattle.pst_parse_expr.specs.Constraints.{is_other}
use Rattle.pst_parse_expr.specs.ConstraintFamilies.{item_family}
use Rattle.pst_parse_expr.proofs.constraint.+constraint.Given as goal

abbrev pub decreases-set : goal.decreases-set
decreases-set l = (length l.tokens.now - l.at) * 8 + 5

abbrev pub decreases-block : goal.decreases-block
decreases-block l = (length l.tokens.now - l.at) * 8 + 4

abbrev pub decreases-items : goal.decreases-items
decreases-items l = (length l.tokens.now - l.at) * 8 + 3

abbrev pub decreases-item : goal.decreases-item
decreases-item l = (length l.tokens.now - l.at) * 8 + 2

abbrev pub decreases-expr_item : goal.decreases-expr_item
decreases-expr_item l = (length l.tokens.now - l.at) * 8

abbrev pub decreases-if_item : goal.decreases-if_item
decreases-if_item l = (length l.tokens.now - l.at) * 8

abbrev pub decreases-foreach_item : goal.decreases-foreach_item
decreases-foreach_item l = (length l.tokens.now - l.at) * 8

abbrev pub invariant-items-items : goal.invariant-items-items
invariant-items-items l = ListLoop (is_other kind.RightBrace) (item_family l.depth) l.tokens (l.fn.at - 1) l.fn.at (map view_constraint_item l.items.items) l.place

abbrev pub decreases-items-items : goal.decreases-items-items
decreases-items-items l = length l.tokens - l.place
