use Rattle.std.proofs.Common.{◌≡◌, ◌++◌, drop, map}
use Rattle.pst_ast.specs.DeclarationView.{view_unit}
use Rattle.pst_evaluate.specs.Kept.{known_in}
use Rattle.pst_declaration_rules.specs.Fields.{with_fields}
use Rattle.pst_declaration_rules.proofs.fields.members_of.Given as goal

abbrev pub invariant-loop-declaration : goal.invariant-loop-declaration
invariant-loop-declaration l =
    l.members.items ++ map (with_fields (map view_unit l.sites) l.index l.names (known_in l.values)) (drop l.declaration-index l.declaration-items)
    ≡ map (with_fields (map view_unit l.sites) l.index l.names (known_in l.values)) l.declaration-items
