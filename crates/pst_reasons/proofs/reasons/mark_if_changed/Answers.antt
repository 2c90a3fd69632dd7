use Rattle.std.proofs.Common.{arith}
use Rattle.pst_reasons.proofs.MarkLemmas.{marked_by, passed_by}
use Rattle.pst_reasons.proofs.reasons.mark_if_changed.Goals as goal

pub returns-then-first-mark : goal.returns-then-first-mark
returns-then-first-mark c = passed_by c.args.variable c.args.firsts.now c.args.mark c.args.marks.now (omega (arith, c.if-first-mark.true, c.first_at-first.ensures))

pub returns : goal.returns
returns c = marked_by c.args.variable c.args.firsts.now c.args.mark c.args.marks.now c.put.new.self c.requires c.put.ensures
