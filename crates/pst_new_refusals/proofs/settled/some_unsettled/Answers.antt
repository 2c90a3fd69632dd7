use Rattle.std.proofs.Common.{get_or, subst, arith}
use Rattle.std.proofs.lemmas.Option.{slice_get-get_or}
use Rattle.pst_model.specs.ModelView.{view_model}
use Rattle.pst_known.specs.Known.{seen}
use Rattle.pst_new_refusals.specs.Named.{rows}
use Rattle.pst_new_refusals.specs.Settled.{IsSettledAt}
use Rattle.pst_new_refusals.specs.Newly.{IfNot}
use Rattle.pst_new_refusals.proofs.Nodes.{each_more, each_all}
use Rattle.pst_new_refusals.proofs.settled.some_unsettled.Goals as goal

pub loop-n-preserved : goal.loop-n-preserved
loop-n-preserved c =
    let m = view_model c.args.scene.now.model.now in
    let s = seen c.args.scene.now in
    let named = rows c.args.named.now in
    let list = c.args.list.now in
    let i = c.loop-n.n-index in
    let x = get_or list i 0 in
    each_more (IsSettledAt m s named) list i x (slice_get-get_or list i 0 c.loop-n-test.true)
    (subst (λ b. IfNot b (IsSettledAt m s named x)) c.if-branch.false c.in_ok-is_node_unsettled.ensures) c.loop-n.invariant

pub returns : goal.returns
returns c = each_all (IsSettledAt (view_model c.args.scene.now.model.now) (seen c.args.scene.now) (rows c.args.named.now)) c.args.list.now c.loop-n.n-index (omega arith) c.loop-n.invariant
