-- What counts at the tokens of a tree.
use Rattle.std.specs.Prelude.{◌≡◌, ℕ, length}
use Rattle.pst_ast.specs.Rule.{Rule}
use Rattle.pst_ast.specs.TreeOf.{TreeOf}
use Rattle.pst_ast.specs.CountsOf.{counts_of}
use Rattle.pst_ast.specs.SpellOf.{spell_of}

-- A tree has one entry of what counts towards the limits for each of its tokens.
abbrev pub EachTokenCountsOnce : Type 0
EachTokenCountsOnce = (rule : Rule) (depth : ℕ) (tree : TreeOf rule) → length (counts_of rule depth tree) ≡ length (spell_of rule tree)
