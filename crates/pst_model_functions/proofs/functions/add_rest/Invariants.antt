use Rattle.std.proofs.Common.{◌≡◌, ◌++◌, drop, map}
use Rattle.pst_ast.specs.DeclarationView.{view_next_parameter}
use Rattle.pst_elab_rules.specs.Types.{parameter_span}
use Rattle.pst_ast.specs.Declarations.{next_parameter}
use Rattle.pst_sources.specs.Shown.{sources_of}
use Rattle.pst_model_functions.proofs.functions.add_rest.Given as goal

abbrev pub invariant-loop-next : goal.invariant-loop-next
invariant-loop-next l =
    l.found.items ++ map (parameter_span (sources_of l.known)) (map next_parameter (map view_next_parameter (drop l.next-index l.rest)))
    ≡ l.initial.found.items ++ map (parameter_span (sources_of l.known)) (map next_parameter (map view_next_parameter l.rest))
