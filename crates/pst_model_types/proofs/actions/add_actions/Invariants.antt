use Rattle.std.proofs.Common.{◌≡◌, ◌++◌, drop, map}
use Rattle.pst_elab_rules.specs.Types.{model_action}
use Rattle.pst_model.specs.ModelView.{view_action}
use Rattle.pst_ast.specs.Sorts.{is_action}
use Rattle.pst_sources.specs.Shown.{sources_of}
use Rattle.pst_type_rules.specs.Members.{those_that}
use Rattle.pst_model_types.proofs.actions.add_actions.Given as goal

abbrev pub invariant-loop-declaration : goal.invariant-loop-declaration
invariant-loop-declaration l =
    map view_action l.found.items ++ map (model_action (sources_of l.numbered) l.domains.domains) (those_that is_action (drop l.declaration-index l.declarations))
    ≡ map view_action l.initial.found.items ++ map (model_action (sources_of l.numbered) l.domains.domains) (those_that is_action l.declarations)
