use Rattle.pst_check.proofs.Places.{no_true}
use Rattle.pst_check.proofs.Meanings.{before_must}
use Rattle.pst_check.proofs.starts.is_statement_open.Goals as goal

pub returns-then-not-must : goal.returns-then-not-must
returns-then-not-must c = (
  λ t. absurd (no_true t),
  λ h. absurd (no_true (c.if-not-must.ensures.1 (before_must c.args.scenario.now c.args.plan.now c.requires.planned c.requires.preorder c.requires.one_leaf c.before_is_never_itself.ensures c.args.a c.args.b c.requires.a_in c.requires.b_in h.before))),
)
