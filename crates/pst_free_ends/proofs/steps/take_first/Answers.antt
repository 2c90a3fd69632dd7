use Rattle.std.proofs.Common.{refl}
use Rattle.pst_free_ends.proofs.Moves.{first_moves}
use Rattle.pst_free_ends.proofs.steps.take_first.Goals as goal

pub returns-clause-ok : goal.returns-clause-ok
returns-clause-ok c = λ acts are turn ahead.
    first_moves c.args.need.now acts turn ahead c.requires.writer c.begin.new.self c.args.sources.now _ refl refl refl are c.begin.ensures.ends c.in_ok-begin.ensures.ok c.in_ok-begin.ensures.fresh
