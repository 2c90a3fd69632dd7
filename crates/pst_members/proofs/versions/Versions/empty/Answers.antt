use Rattle.std.proofs.Common.{rules}
use Rattle.pst_members.proofs.Kept.{finds_nothing, is_there}
use Rattle.pst_members.proofs.versions.Versions.empty.Goals as goal

pub returns-clause-there : goal.returns-clause-there
returns-clause-there c = is_there c.args.self.now

pub returns-clause-nothing : goal.returns-clause-nothing
returns-clause-nothing c = λ key. finds_nothing c.args.self.now key
