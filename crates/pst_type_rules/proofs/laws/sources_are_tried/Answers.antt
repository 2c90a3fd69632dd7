use Rattle.pst_type_rules.proofs.SourcesTried.{range, count, size}
use Rattle.pst_type_rules.proofs.WidthTried.{first_breach}
use Rattle.pst_type_rules.proofs.laws.sources_are_tried.Goals as goal

pub returns : goal.returns
returns c = record {
  width = first_breach;
  range = range;
  count = count;
  size = size;
}
