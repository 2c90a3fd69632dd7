use Rattle.std.proofs.Common.{not, Ok, sym, ◌∙◌}
use Rattle.pst_expr.specs.Tree.{view}
use Rattle.pst_narrow.proofs.NarrowLemmas.{ok_not_false}
use Rattle.pst_narrow.proofs.SettleLemmas.{tested_only, ok_not_true}
use Rattle.pst_narrow.proofs.settle.look_again.Goals as goal

pub returns-clause-step : goal.returns-clause-step
returns-clause-step c =
    tested_only (view c.args.constraint.now) c.args.bounds.now c.args.trail.now (Ok (not c.refused.result)) c.requires.upright (λ r. c.refused.ensures.sound (ok_not_false c.refused.result r))

pub returns-clause-tested : goal.returns-clause-tested
returns-clause-tested c e = sym c.refused.ensures.table ∙ ok_not_true c.refused.result e
