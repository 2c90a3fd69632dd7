use Rattle.std.proofs.Common.{◌≡◌, ◌++◌, List, drop}
use Rattle.pst_ast.specs.declared.scope_declaration.Declaration.{Declaration}
use Rattle.pst_numbers.specs.Meanings.{meanings_of}
use Rattle.pst_numbers.specs.Numbered.{AreNumbers}
use Rattle.pst_numbers.proofs.meanings.meanings_of.Given as goal

abbrev pub invariant-loop-name : goal.invariant-loop-name
invariant-loop-name l = (ds : List Declaration) → AreNumbers ds l.numbers → l.found.items ++ meanings_of ds (drop l.name-index l.meant) ≡ meanings_of ds l.meant
