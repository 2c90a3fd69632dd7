-- What the program makes of parts, without where it lies in memory.
use Rattle.pst_ast.specs.ExpressionTree.{MaybeIndex, MakePart}
use Rattle.pst_ast.specs.ExpressionView.{view_part}
use Rattle.pst_ast.specs.declared.expression.IndexNode.{IndexNode}
use Rattle.pst_ast.specs.declared.expression.PartNode.{roll-PartNode}
use Rattle.pst_ast.specs.declared.fault.SyntaxFault.TheVariants as the_fault
use Rattle.pst_ast.specs.declared.fault.SyntaxFault.{SyntaxFault}
use Rattle.pst_ast.specs.declared.leaf.Name.{Name}
use Rattle.pst_parse_member.specs.Families.{array_size_family}
use Rattle.pst_parse_operator.proofs.Rules.{part_view}
use Rattle.pst_parse_operator.specs.Families.{view_index_option, index_family}
use Rattle.pst_reading.specs.Gives.{SettlesFrom, FailsFrom}
use Rattle.pst_reading.specs.Parser.{Outcome, Refused, TooDeep}
use Rattle.pst_token.specs.declared.token.Token.{Token}
use Rattle.std.proofs.Common.{arith, ℕ, suc, ◌≡◌, List, Option, drop}

-- a name with the size of an array
pub part_seen : (name : Name) (index : Option IndexNode) → view_part (roll-PartNode (record { name = name; index = index })) ≡ MakePart name (view_index_option index)
part_seen name index = part_view name index

-- the size of an array is an index in no other expression
module _ (tokens : List Token) (at d : ℕ) where
  pub size_settles : (o : Outcome MaybeIndex) → SettlesFrom (index_family d 0) tokens at at o → SettlesFrom (array_size_family d) tokens at at o
  size_settles o h size prefixes m n = h (suc size) prefixes (omega (arith, m)) n

  pub size_fails : (e : SyntaxFault) → FailsFrom (index_family d 0) tokens at at e → FailsFrom (array_size_family d) tokens at at e
  size_fails (the_fault.At k) h = (size_settles (Refused (drop k tokens)) h.0, h.1, h.2)
  size_fails (the_fault.Deep k) h = (size_settles (TooDeep (drop k tokens)) h.0, h.1, h.2)
  size_fails the_fault.NoMemory h = tt
