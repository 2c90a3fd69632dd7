use Rattle.std.proofs.Common.{◌≡◌, ◌++◌, drop, map}
use Rattle.pst_ast.specs.DeclarationView.{view_function as view_function_node}
use Rattle.pst_elab_rules.specs.Types.{model_function}
use Rattle.pst_model.specs.ModelView.{view_function}
use Rattle.pst_sources.specs.Shown.{sources_of}
use Rattle.pst_type_rules.specs.Sites.{function_of}
use Rattle.pst_model_functions.proofs.functions.add_functions.Given as goal

abbrev pub invariant-loop-function : goal.invariant-loop-function
invariant-loop-function l =
    map view_function l.found.items ++ map (model_function (sources_of l.known)) (map (λ f. function_of (view_function_node f.now)) (drop l.function-index l.functions))
    ≡ map view_function l.initial.found.items ++ map (model_function (sources_of l.known)) (map (λ f. function_of (view_function_node f.now)) l.functions)
