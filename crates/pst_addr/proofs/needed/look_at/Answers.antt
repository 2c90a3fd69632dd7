use Rattle.std.proofs.lemmas.Option.{slice_get-get_or}
use Rattle.std.proofs.Common.{get_or}
use Rattle.pst_addr.specs.declared.ask.Ask.{Ask}
use Rattle.pst_addr.proofs.Marking.{looked_at}
use Rattle.pst_addr.proofs.needed.look_at.Goals as goal

pub returns : goal.returns
returns c =
    let d : Ask = record { action = 0; size = 0; align = 0 } in
    looked_at c.args.plan.now c.args.asks.now c.requires.asks c.args.at (get_or c.args.asks.now c.args.at d) (slice_get-get_or c.args.asks.now c.args.at d c.requires.at_in)
    c.args.set.now c.mark.new.marks c.args.marks.now c.may_be_met.result c.requires.seen c.mark.ensures.many c.mark.ensures.marks c.may_be_met.ensures
