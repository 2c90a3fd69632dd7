-- Laws of the grammar.
use Rattle.std.specs.Prelude.{ℕ, ◌≡◌, List, [], ◌∷◌, ◌++◌}
use Rattle.pst_token.specs.declared.token.Token.{Token}
use Rattle.pst_ast.specs.Rule.{Rule, TheExpr, TheLeft, TheRight, TheLeftOfIn, TheUnary, ThePrimary, ThePath, ThePart, TheRanges, TheRange, TheOption, TheList}
use Rattle.pst_ast.specs.declared.leaf.Operator.{Operator}
use Rattle.pst_ast.specs.Answers.{IsRead, IsStopped, IsTooDeep}
use Rattle.pst_ast.specs.TreeOf.{TreeOf}
use Rattle.pst_ast.specs.SpellOf.{spell_of}
use Rattle.pst_ast.specs.ProperOf.{IsProperOf}
use Rattle.pst_ast.specs.Production.{Production}
use Rattle.pst_ast.specs.Closing.{closings}
use Rattle.pst_ast.specs.Viable.{IsViable, IsOpen}

-- an alternative of a rule stands open as a whole
abbrev pub ProductionsAreOpen : Type 0
ProductionsAreOpen = (rule : Rule) (parts : List Rule) → Production rule parts → IsOpen rule [] parts

-- a front, and the closings of the parts that stand open behind it, are spelled by a proper tree
abbrev pub ClosingsClose : Type 0
ClosingsClose = (rule : Rule) (front : List Token) (parts : List Rule) → IsOpen rule front parts → (tree : TreeOf rule) × IsProperOf rule tree × (spell_of rule tree ≡ front ++ closings parts)

-- so the front is viable
abbrev pub OpenFrontsAreViable : Type 0
OpenFrontsAreViable = (rule : Rule) (front : List Token) (parts : List Rule) → IsOpen rule front parts → IsViable rule front

-- the first open part may be read
abbrev pub PartsAreRead : Type 0
PartsAreRead = (rule : Rule) (front : List Token) (part : Rule) (parts : List Rule) (tree : TreeOf part) → IsOpen rule front (part ∷ parts) → IsProperOf part tree → IsOpen rule (front ++ spell_of part tree) parts

-- the first open part may be begun
abbrev pub PartsAreBegun : Type 0
PartsAreBegun = (rule : Rule) (front : List Token) (part : Rule) (parts : List Rule) (inner : List Token) (more : List Rule) → IsOpen rule front (part ∷ parts) → IsOpen part inner more → IsOpen rule (front ++ inner) (more ++ parts)

-- what begins viable tokens is viable
abbrev pub ViableFrontsBegin : Type 0
ViableFrontsBegin = (rule : Rule) (front more : List Token) → IsViable rule (front ++ more) → IsViable rule front

-- at most one proper tree of a rule spells a list of tokens
abbrev pub AtMostOneTree : Rule → Type 0
AtMostOneTree rule = (first second : TreeOf rule) → IsProperOf rule first → IsProperOf rule second → spell_of rule first ≡ spell_of rule second → first ≡ second

-- whether a rule is one of the grammar's own, and no part left out or repeated
abbrev pub IsNamed : Rule → Type 0
IsNamed (TheOption part) = ⊥
IsNamed (TheList part) = ⊥
IsNamed _ = Unit {0}

-- for every rule of the grammar
abbrev pub OneTreeOfEachRule : Type 0
OneTreeOfEachRule = (rule : Rule) → IsNamed rule → AtMostOneTree rule

-- for the rules of expressions
abbrev pub OneTreeOfExpressions : Type 0
OneTreeOfExpressions =
    AtMostOneTree TheExpr
    × ((operator : Operator) → AtMostOneTree (TheLeft operator))
    × ((operator : Operator) → AtMostOneTree (TheRight operator))
    × AtMostOneTree TheLeftOfIn
    × AtMostOneTree TheUnary
    × AtMostOneTree ThePrimary
    × AtMostOneTree ThePath
    × AtMostOneTree ThePart
    × AtMostOneTree TheRanges
    × AtMostOneTree TheRange

-- what a parser answers is determined: of a tree's end, an unexpected token and a token that is too deep only one fits, and it fits at one index
abbrev pub AnswersAgree : Type 0
AnswersAgree =
    (rule : Rule) (tokens : List Token) (start depth a b : ℕ) (tree other : TreeOf rule) → (IsRead rule tokens start depth tree a → IsRead rule tokens start depth other b → (a ≡ b) × (spell_of rule tree ≡ spell_of rule other))
    × (IsRead rule tokens start depth tree a → IsStopped rule tokens start depth b → ⊥)
    × (IsRead rule tokens start depth tree a → IsTooDeep rule tokens start depth b → ⊥)
    × (IsStopped rule tokens start depth a → IsStopped rule tokens start depth b → a ≡ b)
    × (IsStopped rule tokens start depth a → IsTooDeep rule tokens start depth b → ⊥)
    × (IsTooDeep rule tokens start depth a → IsTooDeep rule tokens start depth b → a ≡ b)
