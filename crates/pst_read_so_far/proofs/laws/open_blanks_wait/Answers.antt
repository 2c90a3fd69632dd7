use Rattle.pst_read_so_far.proofs.Behind.{to_come_is, of_blanks, count_is}
use Rattle.pst_read_so_far.proofs.laws.open_blanks_wait.Goals as goal

pub returns-clause-blanks : goal.returns-clause-blanks
returns-clause-blanks c = to_come_is c.filled_blanks_stand.ensures

pub returns-clause-places : goal.returns-clause-places
returns-clause-places c = of_blanks c.filled_blanks_stand.ensures

pub returns-clause-count : goal.returns-clause-count
returns-clause-count c = count_is c.filled_blanks_stand.ensures
