use Rattle.std.proofs.lemmas.Result.{IfOk-weaker}
use Rattle.pst_square.specs.declared.closure.Closing.{Closing}
use Rattle.pst_graph.proofs.Chains.{order_of}
use Rattle.pst_graph.proofs.must.must_rows.Goals as goal

pub returns : goal.returns
returns c =
    let direct = c.in_ok-direct.ensures in
    IfOk-weaker c.closed_rows.result _ _ (λ (closing : Closing) h. order_of c.args.scenario.now c.requires.built.linked c.in_ok-direct.direct closing direct.0 direct.2 h) c.closed_rows.ensures
