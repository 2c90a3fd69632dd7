use Rattle.std.proofs.Common.{List, length, subst}
use Rattle.pst_scen.specs.declared.act.Filled.{Filled}
use Rattle.pst_graph.specs.Writes.{HasWrites}
use Rattle.pst_graph.proofs.WritesListed.{all_writes_more}
use Rattle.pst_graph.proofs.writes.push_writes_of.Goals as goal

pub returns : goal.returns
returns c =
    let pushed = c.in_ok-push_writes.ensures in
    all_writes_more c.args.scenario.now c.args.writes.now.items c.push_writes.new.writes.items c.args.a c.act_at-act.result.now c.requires.a_in c.act_at-act.ensures c.requires.before pushed.0
    (subst (λ (list : List Filled). HasWrites c.push_writes.new.writes.items list c.args.a (length list)) c.as_slice.ensures pushed.1)
