use Rattle.std.proofs.Common.{◌≡◌, ◌++◌, drop, map}
use Rattle.pst_ast.specs.DeclarationView.{view_next_parameter}
use Rattle.pst_ast.specs.declared.scope_declaration.Sort.TheVariants as sort
use Rattle.pst_ast.specs.Declarations.{member, parameter_name, next_parameter}
use Rattle.pst_collect.proofs.collect_type.add_next_parameters.Given as goal

abbrev pub invariant-loop-next : goal.invariant-loop-next
invariant-loop-next l = l.found.items ++ map (λ p. member l.owner sort.Parameter (parameter_name p)) (map next_parameter (map view_next_parameter (drop l.next-index l.parameters))) ≡ l.initial.found.items ++ map (λ p. member l.owner sort.Parameter (parameter_name p)) (map next_parameter (map view_next_parameter l.parameters))
