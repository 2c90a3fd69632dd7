use Rattle.std.proofs.Common.{subst, sym, List, map}
use Rattle.std.specs.List.{Contains}
use Rattle.pst_ast.specs.DeclarationView.{view_unit}
use Rattle.pst_ast.specs.declared.scope_declaration.Declaration.{Declaration}
use Rattle.pst_ast.specs.NameRules.{Reaches}
use Rattle.pst_tree.proofs.Typed.{never_loops}
use Rattle.pst_tree.proofs.sources.instances_by.Goals as goal

pub instances_in-requires-clause-no_loops : goal.instances_in-requires-clause-no_loops
instances_in-requires-clause-no_loops c =
    subst (λ (ds : List Declaration). (d : Declaration) → Contains ds d → Reaches ds d d → ⊥) (sym c.requires.declared)
    (never_loops (map view_unit c.args.units.now) c.args.names.now c.requires.kept)
