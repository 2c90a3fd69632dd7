use Rattle.std.proofs.Common.{◌≡◌, ◌++◌, drop, map}
use Rattle.pst_elab_rules.specs.Types.{model_object}
use Rattle.pst_model.specs.ModelView.{view_object}
use Rattle.pst_ast.specs.Sorts.{is_object}
use Rattle.pst_sources.specs.Shown.{sources_of}
use Rattle.pst_type_rules.specs.Members.{those_that}
use Rattle.pst_model_types.proofs.objects.add_objects.Given as goal

abbrev pub invariant-loop-declaration : goal.invariant-loop-declaration
invariant-loop-declaration l =
    map view_object l.found.items ++ map (model_object (sources_of l.sources) l.domains.domains) (those_that is_object (drop l.declaration-index l.declarations))
    ≡ map view_object l.initial.found.items ++ map (model_object (sources_of l.sources) l.domains.domains) (those_that is_object l.declarations)
