use Rattle.std.proofs.Common.{length, subst, arith}
use Rattle.pst_model.specs.ModelView.{view_model}
use Rattle.pst_known.specs.Known.{seen}
use Rattle.pst_new_refusals.specs.Named.{rows}
use Rattle.pst_new_refusals.specs.Settled.{IsSettledAt}
use Rattle.pst_new_refusals.specs.Newly.{IfNot}
use Rattle.pst_new_refusals.proofs.Nodes.{from_none, from_more, from_all}
use Rattle.pst_new_refusals.proofs.settled.some_unsettled_from.Goals as goal

pub loop-n-init : goal.loop-n-init
loop-n-init c = from_none (IsSettledAt (view_model c.args.scene.now.model.now) (seen c.args.scene.now) (rows c.args.named.now)) c.args.from

pub loop-n-preserved : goal.loop-n-preserved
loop-n-preserved c =
    let P = IsSettledAt (view_model c.args.scene.now.model.now) (seen c.args.scene.now) (rows c.args.named.now) in
    from_more P c.args.from c.loop-n.n (subst (λ b. IfNot b (P c.loop-n.n)) c.if-branch.false c.in_ok-is_node_unsettled.ensures) c.loop-n.invariant

pub returns : goal.returns
returns c =
    from_all (IsSettledAt (view_model c.args.scene.now.model.now) (seen c.args.scene.now) (rows c.args.named.now)) c.args.from c.loop-n.n (length c.args.scene.now.nodes.now) (omega arith) c.loop-n.invariant
