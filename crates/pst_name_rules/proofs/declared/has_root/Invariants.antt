use Rattle.std.proofs.Common.{◌≡◌, drop}
use Rattle.std.specs.List.{list_any}
use Rattle.pst_ast.specs.NameRules
use Rattle.pst_name_rules.proofs.declared.has_root.Given as goal

abbrev pub invariant-loop-declaration : goal.invariant-loop-declaration
invariant-loop-declaration l = list_any (NameRules.is_root_component l.names) (drop l.declaration-index l.declaration-items) ≡ list_any (NameRules.is_root_component l.names) l.index
