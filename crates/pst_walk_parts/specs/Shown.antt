-- What a walk shows.
use Rattle.std.specs.Prelude.{List, [], ◌∷◌, map}
use Rattle.pst_ast.specs.ActivityView.{view_statement}
use Rattle.pst_ast.specs.ActivityTree.{StatementTree, StatementRow, NoStatementRow, MoreStatementRow}
use Rattle.pst_ast.specs.ExpressionTree.{NextPartTree, MakeNextPart}
use Rattle.pst_ast.specs.declared.activity.StatementNode.{StatementNode}
use Rattle.pst_ast.specs.declared.referent.PathPart.{PathPart}
use Rattle.pst_ast.specs.Uses
use Rattle.pst_ast.specs.Uses.{part_of}
use Rattle.pst_walk_parts.specs.declared.visitor.Role.{Role}
use Rattle.pst_walk_parts.specs.declared.visitor.Role.TheVariants as role
use Rattle.pst_walk_parts.specs.declared.visitor.Wanted.{Wanted}
use Rattle.pst_walk_parts.specs.declared.visitor.Wanted.TheVariants as wanted

-- statements as a block has them
abbrev pub row_of : List StatementTree → StatementRow
row_of [] = NoStatementRow
row_of (head ∷ tail) = MoreStatementRow head (row_of tail)

abbrev pub view_statements : List StatementNode → StatementRow
view_statements statements = row_of (map view_statement statements)

abbrev pub dotted_part : NextPartTree → PathPart
dotted_part (MakeNextPart dot part) = part_of part

abbrev pub view_wanted : Wanted → Uses.Wanted
view_wanted wanted.Component = Uses.AComponent
view_wanted wanted.Action = Uses.AnAction
view_wanted wanted.Object = Uses.AnObject
view_wanted wanted.Enumeration = Uses.AnEnum

abbrev pub view_role : Role → Uses.Role
view_role (role.Width signed) = Uses.Width signed
view_role role.LowestBit = Uses.LowestBit
view_role role.RangeEnd = Uses.RangeEnd
view_role role.EnumValue = Uses.EnumValue
view_role (role.PoolSize object) = Uses.PoolSize object
view_role role.ArraySize = Uses.ArraySize
view_role role.Weight = Uses.Weight
view_role role.Condition = Uses.Condition
view_role role.Constrains = Uses.Constrains
view_role role.InBody = Uses.InBody
