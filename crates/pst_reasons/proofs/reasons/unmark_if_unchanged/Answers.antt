use Rattle.std.proofs.Common.{arith}
use Rattle.pst_reasons.proofs.MarkLemmas.{none_off, off_by}
use Rattle.pst_reasons.proofs.reasons.unmark_if_unchanged.Goals as goal

pub returns-then-first-mark : goal.returns-then-first-mark
returns-then-first-mark c = none_off c.args.firsts.now c.args.mark c.args.marks.now

pub returns : goal.returns
returns c = off_by c.args.variable c.args.firsts.now c.args.mark c.args.marks.now c.take.new.self (omega (arith, c.if-first-mark.false, c.first_at-first.ensures)) c.take.ensures
