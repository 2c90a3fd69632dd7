use Rattle.pst_elab_rules.proofs.RowsTried.{empty, choosing, inline_constraints, elements_of_array, root, no_root}
use Rattle.pst_elab_rules.proofs.laws.rows_are_tried.Goals as goal

pub returns : goal.returns
returns c = record {
  empty = empty;
  choosing = choosing;
  inline_constraints = inline_constraints;
  elements_of_array = elements_of_array;
  root = root;
  no_root = no_root;
}
