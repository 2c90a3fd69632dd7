use Rattle.std.proofs.Common.{subst}
use Rattle.pst_model.specs.ModelView.{view_model}
use Rattle.pst_field_values.specs.Kept.{AreOfFields}
use Rattle.pst_list_values.proofs.fields.values_of.Goals as goal

pub returns : goal.returns
returns c =
    let m = view_model c.args.model.now in
    let s = c.args.scenario.now in
    let found = c.in_ok-found.found in
    subst (λ firsts. AreOfFields m (record { level = s.level; nodes = s.nodes; actions = s.actions; firsts = firsts }) c.args.node found) c.as_slice-firsts.ensures
    (subst (λ actions. AreOfFields m (record { level = s.level; nodes = s.nodes; actions = actions; firsts = c.as_slice-firsts.result.now }) c.args.node found) c.as_slice-actions.ensures
    (subst (λ nodes. AreOfFields m (record { level = s.level; nodes = nodes; actions = c.as_slice-actions.result.now; firsts = c.as_slice-firsts.result.now }) c.args.node found) c.as_slice-nodes.ensures c.in_ok-found.ensures))
