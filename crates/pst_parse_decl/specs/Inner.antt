-- The parsers of activities and bodies, as parts of an action.
use Rattle.pst_ast.specs.ActivityTree.{ActivityTree}
use Rattle.pst_ast.specs.BodyTree.{BodyTree}
use Rattle.pst_parse_statement.specs.Activities.{activity_at}
use Rattle.pst_parse_body.specs.Bodies.{body_at}
use Rattle.pst_parse_expr.specs.Constraints.{Within}
use Rattle.pst_reading.specs.Gives.{Family}
use Rattle.std.specs.Prelude.{ℕ, suc}

-- a size that suffices for the tokens of an activity is one less than its parser asks for
unfoldable pub activity_parser : ℕ → Within ActivityTree
activity_parser size depth = activity_at (suc size) depth

abbrev pub activity_parser_family : ℕ → Family ActivityTree
activity_parser_family depth size prefixes = activity_parser size depth

-- the same of a body
unfoldable pub body_parser : ℕ → Within BodyTree
body_parser size depth = body_at (suc size) depth

abbrev pub body_parser_family : ℕ → Family BodyTree
body_parser_family depth size prefixes = body_parser size depth
