-- Pools as they are listed.
use Rattle.pst_ast.specs.DeclarationTree.{PoolTree, MakePool}
use Rattle.pst_elab_rules.specs.Model.{DeclaredPool}

abbrev pub pool_of_tree : PoolTree → DeclaredPool
pool_of_tree (MakePool word size object name semicolon) = record { name = name; size = size }
