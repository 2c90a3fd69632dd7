use Rattle.pst_book.proofs.Parting.{marks}
use Rattle.pst_tallies.proofs.rows.is_marked.Goals as goal

pub returns : goal.returns
returns c = marks c.args.word c.args.first c.args.other
