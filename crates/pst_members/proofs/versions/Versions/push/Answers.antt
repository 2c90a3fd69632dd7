use Rattle.std.proofs.Common.{rules}
use Rattle.pst_members.proofs.Kept.{unchanged, added, stored}
use Rattle.pst_members.proofs.versions.Versions.push.Goals as goal

pub returns-in_err-push-clause-kept : goal.returns-in_err-push-clause-kept
returns-in_err-push-clause-kept c = unchanged c.args.self.now _ (search rules)

pub returns-clause-kept : goal.returns-clause-kept
returns-clause-kept c = added c.args.self.now _ c.args.node (search rules)

pub returns-clause-added : goal.returns-clause-added
returns-clause-added c = stored c.args.self.now _ c.args.node c.in-Ok.at (search rules) (search rules) c.requires
