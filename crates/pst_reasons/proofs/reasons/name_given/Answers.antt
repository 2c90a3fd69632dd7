use Rattle.pst_reasons.proofs.MarkLemmas.{named_by}
use Rattle.pst_reasons.proofs.reasons.name_given.Goals as goal

pub returns : goal.returns
returns c = named_by c.args.place c.args.variable c.args.marks.now c.take.new.self c.args.places.now.items c.push.new.self.items c.in_ok-push.ensures.items c.take.ensures
