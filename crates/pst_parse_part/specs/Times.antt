-- Counts in brackets, parsed from left to right: depth derivations that count are open at the tokens of a part itself.
use Rattle.std.specs.Prelude.{ℕ, Option, Some, None}
use Rattle.pst_base.specs.declared.position.Place.{Place}
use Rattle.pst_token.specs.declared.kind.Kind.TheVariants as kind
use Rattle.pst_ast.specs.declared.leaf.Name.{Name}
use Rattle.pst_ast.specs.declared.shared.LabelNode.{LabelNode}
use Rattle.pst_ast.specs.ExpressionTree.{ExprTree}
use Rattle.pst_ast.specs.Limits.{counted}
use Rattle.pst_reading.specs.Parser.{Parser, Done, followed_by, mark_by, name_by}
use Rattle.pst_reading.specs.Peeking.{if_name_then}
use Rattle.pst_parse_expr.specs.Constraints.{Within}

abbrev pub label_colon : ℕ → Name → Parser LabelNode
label_colon depth name = followed_by (mark_by kind.Colon (counted depth 0)) (λ colon. Done (record { name = name; colon = colon }))

-- NAME ":"
abbrev pub label_by : Within LabelNode
label_by depth = followed_by (name_by (counted depth 0)) (label_colon depth)

-- the places of the brackets, the index and the count
abbrev pub TimesTree : Type 0
TimesTree = Place × Option LabelNode × ExprTree × Place

abbrev pub times_close : ℕ → Place → Option LabelNode → ExprTree → Parser TimesTree
times_close depth left index count = followed_by (mark_by kind.RightParenthesis (counted depth 0)) (λ right. Done (left, index, count, right))

abbrev pub times_count : Within ExprTree → ℕ → Place → Option LabelNode → Parser TimesTree
times_count expr depth left index = followed_by (expr depth) (times_close depth left index)

abbrev pub times_label : Within ExprTree → ℕ → Place → Parser TimesTree
times_label expr depth left = followed_by (label_by depth) (λ label. times_count expr depth left (Some label))

abbrev pub times_inner : Within ExprTree → ℕ → Place → Parser TimesTree
times_inner expr depth left = if_name_then kind.Colon (counted depth 0) (times_label expr depth left) (times_count expr depth left None)

-- "(" [ NAME ":" ] expr ")"
abbrev pub times_by : Within ExprTree → Within TimesTree
times_by expr depth = followed_by (mark_by kind.LeftParenthesis (counted depth 0)) (times_inner expr depth)
