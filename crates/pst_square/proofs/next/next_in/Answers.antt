use Rattle.pst_scen.specs.Rows.{Has}
use Rattle.pst_square.proofs.Nexts.{behind_is}
use Rattle.pst_square.proofs.next.next_in.Goals as goal

pub returns : goal.returns
returns c = behind_is (Has c.args.rows.now c.args.a) c.args.after c.args.rows.now.size c.next_between.result c.next_between.ensures
