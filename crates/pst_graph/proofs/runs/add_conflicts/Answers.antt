use Rattle.std.proofs.lemmas.Result.{IfOk-weaker}
use Rattle.pst_graph.proofs.Running.{inside_moved, conflicts_moved}
use Rattle.pst_graph.proofs.runs.add_conflicts.Goals as goal

pub add_runs-requires-clause-inside : goal.add_runs-requires-clause-inside
add_runs-requires-clause-inside c =
    inside_moved c.args.uses.items c.sort.new.self.items c.deref-then-ascend.result.now c.sort.ensures.permutation c.deref-then-ascend.ensures.value c.args.square.now.size c.requires.inside

pub returns-then-ascend : goal.returns-then-ascend
returns-then-ascend c =
    IfOk-weaker c.add_runs.result _ _
    (λ u added. conflicts_moved c.args.uses.items c.sort.new.self.items c.deref-then-ascend.result.now c.sort.ensures.permutation c.deref-then-ascend.ensures.value c.args.square.now c.add_runs.new.square added) c.add_runs.ensures

pub add_all_apart-requires : goal.add_all_apart-requires
add_all_apart-requires c =
    inside_moved c.args.uses.items c.sort.new.self.items c.deref-2.result.now c.sort.ensures.permutation c.deref-2.ensures.value c.args.square.now.size c.requires.inside

pub returns : goal.returns
returns c =
    conflicts_moved c.args.uses.items c.sort.new.self.items c.deref-2.result.now c.sort.ensures.permutation c.deref-2.ensures.value c.args.square.now c.add_all_apart.new.square c.add_all_apart.ensures
