use Rattle.std.proofs.Common.{◌++◌, ap, map, List, ◌∙◌}
use Rattle.std.specs.List.{flat_map}
use Rattle.pst_elab_rules.specs.Types.{own_constraints}
use Rattle.pst_model.specs.ConstraintTree.{view_constraint}
use Rattle.pst_model.specs.declared.constraint.Constraint.{Constraint}
use Rattle.pst_sources.specs.Shown.{sources_of}
use Rattle.pst_model_types.proofs.Constraining.{own_by}
use Rattle.pst_model_types.proofs.action.action_constraints.Goals as goal

pub returns : goal.returns
returns c =
    let s = sources_of c.args.sources.now in
    let own = flat_map (own_constraints s) in
    c.in_ok-add_each.ensures ∙ ap (λ (cs : List Constraint). map view_constraint cs ++ own c.as_slice.result.now) c.new-found.ensures.items ∙ ap own c.as_slice.ensures.value
    ∙ own_by s c.args.bases.now c.args.action.now c.in_ok-those.those.items c.requires c.in_ok-those.ensures
