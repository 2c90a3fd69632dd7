use Rattle.std.proofs.Common.{refl, ⊎_elim}
use Rattle.pst_nodes.proofs.Bits.{no_true}
use Rattle.pst_graph.proofs.Acted.{contend_clash, touches_clash, clash_touches}
use Rattle.pst_graph.proofs.cause.clashes.Goals as goal

pub returns-then-contend : goal.returns-then-contend
returns-then-contend c = (λ t. contend_clash c.args.scenario.now c.args.a c.args.b (c.if-contend.ensures.0 refl), λ h. refl)

pub returns : goal.returns
returns c = (
  λ t. touches_clash c.args.scenario.now c.args.a c.args.b c.act_at.result.now c.act_at-2.result.now c.act_at.ensures c.act_at-2.ensures (c.touches.ensures.0 t),
  λ h. ⊎_elim (λ k. absurd (no_true (c.if-contend.ensures.1 k))) (λ k. c.touches.ensures.1 k)
      (clash_touches c.args.scenario.now c.args.a c.args.b c.act_at.result.now c.act_at-2.result.now c.act_at.ensures c.act_at-2.ensures h),
)
