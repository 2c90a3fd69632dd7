use Rattle.pst_graph.proofs.Acted.{dispute_contend, contend_dispute}
use Rattle.pst_graph.proofs.cause.contend.Goals as goal

pub returns : goal.returns
returns c = (
  λ t. dispute_contend c.args.scenario.now c.args.a c.args.b c.act_at.result.now c.act_at-2.result.now c.act_at.ensures c.act_at-2.ensures (c.acts_contend.ensures.0 t),
  λ h. c.acts_contend.ensures.1 (contend_dispute c.args.scenario.now c.args.a c.args.b c.act_at.result.now c.act_at-2.result.now c.act_at.ensures c.act_at-2.ensures h),
)
