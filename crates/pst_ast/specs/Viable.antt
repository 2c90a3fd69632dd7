-- Tokens that begin a tree of a rule, and parts of the rule that still stand open behind them.
use Rattle.std.specs.Prelude.{◌≡◌, List, [], ◌∷◌, ◌++◌}
use Rattle.pst_token.specs.declared.token.Token.{Token}
use Rattle.pst_ast.specs.Rule.{Rule}
use Rattle.pst_ast.specs.TreeOf.{TreeOf}
use Rattle.pst_ast.specs.SpellOf.{spell_of}
use Rattle.pst_ast.specs.ProperOf.{IsProperOf}

-- some proper tree of the rule spells a list that begins so
abbrev pub IsViable : Rule → List Token → Type 0
IsViable rule front = (tree : TreeOf rule) × (more : List Token) × IsProperOf rule tree × (spell_of rule tree ≡ front ++ more)

-- a tree for each of the rules
abbrev pub TreesOf : List Rule → Type 0
TreesOf [] = Unit {0}
TreesOf (rule ∷ rules) = TreeOf rule × TreesOf rules

abbrev pub AreProperOf : (rules : List Rule) → TreesOf rules → Type 0
AreProperOf [] trees = Unit {0}
AreProperOf (rule ∷ rules) trees = IsProperOf rule trees.0 × AreProperOf rules trees.1

-- their tokens, in order
abbrev pub spell_all : (rules : List Rule) → TreesOf rules → List Token
spell_all [] trees = []
spell_all (rule ∷ rules) trees = spell_of rule trees.0 ++ spell_all rules trees.1

-- behind the front these parts of the rule stand open: whatever proper trees they get, a proper tree of the rule spells the front and then them
abbrev pub IsOpen : Rule → List Token → List Rule → Type 0
IsOpen rule front parts = (trees : TreesOf parts) → AreProperOf parts trees → (tree : TreeOf rule) × IsProperOf rule tree × (spell_of rule tree ≡ front ++ spell_all parts trees)
