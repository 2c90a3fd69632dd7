use Rattle.pst_book.proofs.Loops.{not_true}
use Rattle.pst_static.proofs.Dealt.{free_same, free_better}
use Rattle.pst_static.proofs.deal.better_of.Goals as goal

pub returns-then-is_better-clause-first : goal.returns-then-is_better-clause-first
returns-then-is_better-clause-first c =
    free_better c.args.loads.now c.args.used.now c.args.lane c.args.best c.requires.lane_in c.requires.best_in (c.is_better.ensures.0 c.if-is_better.true) c.requires.first

pub returns-clause-first : goal.returns-clause-first
returns-clause-first c =
    free_same c.args.loads.now c.args.used.now c.args.lane c.args.best c.requires.lane_in c.requires.low (not_true c.is_better.result c.is_better.ensures.1 c.if-is_better.false) c.requires.first
