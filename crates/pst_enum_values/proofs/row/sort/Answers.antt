use Rattle.pst_enum_values.proofs.Ascending.{ascending_by_sort}
use Rattle.pst_enum_values.proofs.row.sort.Goals as goal

pub returns-clause-ascending : goal.returns-clause-ascending
returns-clause-ascending c = ascending_by_sort c.sort_unstable.new.self.items c.sort_unstable.ensures.sorted
