use Rattle.std.proofs.Common.{refl}
use Rattle.pst_graph.proofs.Running.{marked_more}
use Rattle.pst_graph.proofs.runs.mark_use.Goals as goal

pub returns-then-counts-clause-marked : goal.returns-then-counts-clause-marked
returns-then-counts-clause-marked c =
    marked_more c.args.uses.now c.args.from c.args.i c.args.lone c.requires.low c.args.marks.now c.mark.new.marks c.requires.before (c.if-counts.ensures.0 refl) c.mark.ensures.marks
