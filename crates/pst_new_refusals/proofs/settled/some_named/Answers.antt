use Rattle.std.proofs.Common.{get_or, sym, ◌∙◌, arith}
use Rattle.std.proofs.lemmas.Option.{slice_get-get_or}
use Rattle.pst_new_refusals.specs.Named.{rows}
use Rattle.pst_new_refusals.specs.Settled.{IsNearAt}
use Rattle.pst_new_refusals.proofs.Nodes.{each_more, each_all}
use Rattle.pst_new_refusals.proofs.settled.some_named.Goals as goal

pub loop-n-preserved : goal.loop-n-preserved
loop-n-preserved c =
    let list = c.args.list.now in
    let i = c.loop-n.n-index in
    let x = get_or list i 0 in
    each_more (IsNearAt c.args.nodes.now (rows c.args.named.now)) list i x (slice_get-get_or list i 0 c.loop-n-test.true)
    (sym c.some_named_at.ensures ∙ c.if-some_named_at.false) c.loop-n.invariant

pub returns : goal.returns
returns c = each_all (IsNearAt c.args.nodes.now (rows c.args.named.now)) c.args.list.now c.loop-n.n-index (omega arith) c.loop-n.invariant
