use Rattle.std.proofs.Common.{rules}
use Rattle.pst_index.proofs.index.Index.new.Goals as goal

pub invariant_of-index : goal.invariant_of-index
invariant_of-index c = record {
  names = search rules;
  places = search rules;
  items = search rules;
  fields = search rules;
  others = search rules;
  tables = c.in_ok-new.ensures c.args.declarations.items;
}
