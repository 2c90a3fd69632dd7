use Rattle.std.proofs.Common.{◌≡◌, ◌++◌, drop}
use Rattle.std.specs.List.{filter_map}
use Rattle.pst_ast.specs.Scopes
use Rattle.pst_numbers.proofs.listed.entries.Given as goal

abbrev pub invariant-loop-declaration : goal.invariant-loop-declaration
invariant-loop-declaration l = l.found.items ++ filter_map (Scopes.entry_of l.index) (drop l.declaration-index l.declaration-items) ≡ Scopes.entries l.index
