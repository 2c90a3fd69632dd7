use Rattle.pst_type_members.proofs.Standing.{none_among, some_among}
use Rattle.pst_type_members.proofs.handles.HandleRow.among.Goals as goal

pub returns-in-None : goal.returns-in-None
returns-in-None c = λ ds is. none_among ds c.args.self.now c.args.handle.now c.number.result is c.number.ensures c.in-None.is

pub returns-in-Some : goal.returns-in-Some
returns-in-Some c = λ ds is. some_among ds c.args.self.now c.args.handle.now c.number.result c.in-Some.number is c.number.ensures c.in-Some.is
