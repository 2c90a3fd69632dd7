use Rattle.std.proofs.Common.{◌≡◌, drop}
use Rattle.std.specs.List.{find}
use Rattle.pst_ast.specs.NameRules.{is_root_component}
use Rattle.pst_tree.proofs.sources.root_of.Given as goal

abbrev pub invariant-loop-declaration : goal.invariant-loop-declaration
invariant-loop-declaration l = find (is_root_component l.names) (drop l.declaration-index l.index) ≡ find (is_root_component l.names) l.index
