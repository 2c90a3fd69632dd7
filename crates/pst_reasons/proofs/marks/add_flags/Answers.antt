use Rattle.std.proofs.Common.{ap, ◌∙◌, length, length-append, arith}
use Rattle.pst_reasons.specs.Marks.{marked_in}
use Rattle.pst_reasons.proofs.CountLemmas.{counted_bare}
use Rattle.pst_reasons.proofs.marks.add_flags.Goals as goal

pub loop-at-preserved : goal.loop-at-preserved
loop-at-preserved c = record {
  long = (let n = simp length-append at (ap length c.in_ok-push.ensures.items) in let m = c.loop-at.invariant.long in omega arith);
  marked = ap marked_in c.in_ok-push.ensures.items ∙ (counted_bare c.loop-at.flags.items ∙ c.loop-at.invariant.marked);
}
