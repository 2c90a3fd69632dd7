use Rattle.std.proofs.Common.{◌≡◌, drop}
use Rattle.std.specs.Prelude.{slice_get}
use Rattle.pst_legal.specs.Statements.{children_of}
use Rattle.pst_handle_nodes.specs.Children.{children_from}
use Rattle.pst_handle_nodes.proofs.nodes.child.Given as goal

abbrev pub invariant-loop-number : goal.invariant-loop-number
invariant-loop-number l = slice_get (children_from l.parent l.number (drop l.number l.nodes)) l.left ≡ slice_get (children_of l.nodes l.parent) l.index
