use Rattle.pst_ast.proofs.PathsTried.{claim_indexed, reference_indexed, constraint_indexed, field_indexed, number_indexed, nothing_indexed, claim_last, constraint_last, array_last, element_last, claim_repeats, reference_repeats, constraint_repeats, field_repeats, number_repeats, nothing_repeats, array_repeats, claim_indexed_between, constraint_indexed_between, nothing_indexed_between, constraint_between, array_between, element_between, number_between, handle_indexed_first, number_of_unknown, number_of_mistyped, number_breaks_nothing, type_breaks, number_of_mistyped_indexed, number_of_mistyped_between, field_of_mistyped, no_meaning}
use Rattle.pst_ast.proofs.scope_laws.paths_are_tried.Goals as goal

pub returns : goal.returns
returns c = record {
  claim_indexed = claim_indexed;
  reference_indexed = reference_indexed;
  constraint_indexed = constraint_indexed;
  field_indexed = field_indexed;
  number_indexed = number_indexed;
  nothing_indexed = nothing_indexed;
  claim_last = claim_last;
  constraint_last = constraint_last;
  array_last = array_last;
  element_last = element_last;
  claim_repeats = claim_repeats;
  reference_repeats = reference_repeats;
  constraint_repeats = constraint_repeats;
  field_repeats = field_repeats;
  number_repeats = number_repeats;
  nothing_repeats = nothing_repeats;
  array_repeats = array_repeats;
  claim_indexed_between = claim_indexed_between;
  constraint_indexed_between = constraint_indexed_between;
  nothing_indexed_between = nothing_indexed_between;
  constraint_between = constraint_between;
  array_between = array_between;
  element_between = element_between;
  number_between = number_between;
  handle_indexed_first = handle_indexed_first;
  number_of_unknown = number_of_unknown;
  number_of_mistyped = number_of_mistyped;
  number_breaks_nothing = number_breaks_nothing;
  type_breaks = type_breaks;
  number_of_mistyped_indexed = number_of_mistyped_indexed;
  number_of_mistyped_between = number_of_mistyped_between;
  field_of_mistyped = field_of_mistyped;
  no_meaning = no_meaning;
}
