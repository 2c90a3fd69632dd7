-- What the parts of an expression become while it is made.
use Rattle.std.specs.Prelude.{List, [], ◌∷◌, Option, Some, None}
use Rattle.std.specs.Option.{option_map}
use Rattle.pst_ast.specs.ExpressionTree.{PathTree, NextPartTree, RangeTree}
use Rattle.pst_ast.specs.ExpressionView.{view_range}
use Rattle.pst_ast.specs.declared.expression.NextRange.{NextRange}
use Rattle.pst_expr.specs.Tree.{Expression}
use Rattle.pst_expr.specs.declared.tree.BinaryOp.TheVariants.{Or}
use Rattle.pst_model.specs.ConstraintTree.{SlotTree}
use Rattle.pst_terms.specs.Terms.{Term, Infix, Indexed, Reading, first_some, dotted_index, range_term}
use Rattle.pst_terms.specs.Slots.{with_term, numbered}

-- an element of an array, where there is an index
abbrev pub indexed : List SlotTree → Option (Term SlotTree) → Option (Term SlotTree)
indexed elements index = option_map (Indexed elements) index

abbrev pub with_maybe : List SlotTree → Option (Term SlotTree) → List SlotTree
with_maybe slots None = slots
with_maybe slots (Some term) = with_term slots term

abbrev pub numbered_maybe : List SlotTree → Option (Term SlotTree) → Option Expression
numbered_maybe slots term = option_map (numbered slots) term

-- the first index behind the names of a list
abbrev pub list_index : (PathTree → Reading SlotTree) → List NextPartTree → Option (Term SlotTree)
list_index read [] = None
list_index read (next ∷ more) = first_some (dotted_index read next) (list_index read more)

-- a range behind the first
abbrev pub as_range : NextRange → RangeTree
as_range next = view_range next.range

-- x in one of the ranges before, or in one of these
abbrev pub or_each : (PathTree → Reading SlotTree) → Term SlotTree → Term SlotTree → List RangeTree → Term SlotTree
or_each read x before [] = before
or_each read x before (r ∷ more) = or_each read x (Infix Or before (range_term read x r)) more
