use Rattle.pst_addr.proofs.Multiples.{checked_up}
use Rattle.pst_addr.proofs.multiple.next_multiple.Goals as goal

pub returns : goal.returns
returns c = checked_up c.args.address c.args.align c.checked_add.result c.requires c.if-rest-eq0.false c.checked_add.ensures
