use Rattle.pst_sweep_table.proofs.One.{one_row}
use Rattle.pst_sweep_table.proofs.laws.rows_are_one.Goals as goal

pub returns : goal.returns
returns c = one_row c.first_is_one.ensures
