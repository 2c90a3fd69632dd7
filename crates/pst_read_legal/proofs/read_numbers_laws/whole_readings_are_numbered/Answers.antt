use Rattle.pst_read_legal.proofs.Numbers.{whole_numbered}
use Rattle.pst_read_legal.proofs.read_numbers_laws.whole_readings_are_numbered.Goals as goal

pub returns : goal.returns
returns c = whole_numbered
