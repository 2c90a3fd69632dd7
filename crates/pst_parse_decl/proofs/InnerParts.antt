-- The laws of the parsers of activities and bodies, as parts of an action.
use Rattle.pst_ast.specs.ActivityLimits.{counts_activity}
use Rattle.pst_ast.specs.ActivityProper.{IsProperActivity}
use Rattle.pst_ast.specs.ActivitySpelling.{spell_activity}
use Rattle.pst_ast.specs.ActivityTree.{ActivityTree}
use Rattle.pst_ast.specs.ActivityView.{view_activity}
use Rattle.pst_ast.specs.BodyLimits.{counts_body}
use Rattle.pst_ast.specs.BodyProper.{IsProperBody}
use Rattle.pst_ast.specs.BodySpelling.{spell_body}
use Rattle.pst_ast.specs.BodyTree.{BodyTree}
use Rattle.pst_ast.specs.BodyView.{view_body}
use Rattle.pst_ast.specs.declared.activity.ActivityNode.{ActivityNode}
use Rattle.pst_ast.specs.declared.body.BodyNode.{BodyNode}
use Rattle.pst_ast.specs.declared.fault.SyntaxFault.TheVariants as the_fault
use Rattle.pst_ast.specs.declared.fault.SyntaxFault.{SyntaxFault}
use Rattle.pst_parse_statement.proofs.ActivityAgain.{activity_again}
use Rattle.pst_parse_statement.proofs.ActivityExplains.{activity_explains}
use Rattle.pst_parse_statement.specs.ActivityFamilies.{activity_family}
use Rattle.pst_parse_body.proofs.BodyAgain.{body_again}
use Rattle.pst_parse_body.proofs.BodyExplains.{body_explains}
use Rattle.pst_parse_body.specs.BodyFamilies.{body_family}
use Rattle.pst_parse_decl.specs.Inner.{activity_parser, body_parser, activity_parser_family, body_parser_family}
use Rattle.pst_reading.proofs.Explaining.{Means, Explains}
use Rattle.pst_reading.proofs.Rereading.{Rereads, Anything}
use Rattle.pst_reading.specs.Gives.{SettlesFrom}
use Rattle.pst_reading.specs.Parser.{Outcome, Refused, TooDeep}
use Rattle.pst_reading.specs.Reads.{Reads}
use Rattle.pst_token.specs.declared.token.Token.{Token}
use Rattle.std.proofs.Common.{arith, ℕ, suc, ◌≤◌, List, length, drop, Result, Ok, Err}

-- what is spelled, and read again
pub inner_activity_explains : (size depth : ℕ) → Explains (Means spell_activity IsProperActivity (counts_activity depth)) (activity_parser size depth)
unfolding activity_parser
inner_activity_explains size depth = activity_explains (suc size) depth

pub inner_body_explains : (size depth : ℕ) → Explains (Means spell_body IsProperBody (counts_body depth)) (body_parser size depth)
unfolding body_parser
inner_body_explains size depth = body_explains (suc size) depth

pub inner_activity_rereads : (size depth : ℕ) (x : ActivityTree) → IsProperActivity x → length (spell_activity x) ≤ size → Rereads Anything (activity_parser size depth) (spell_activity x) (counts_activity depth x) x
unfolding activity_parser
inner_activity_rereads size depth x proper short = record { again = λ rest m. activity_again (suc size) depth x rest proper (omega (arith, short)) tt }

pub inner_body_rereads : (size depth : ℕ) (x : BodyTree) → IsProperBody x → length (spell_body x) ≤ size → Rereads Anything (body_parser size depth) (spell_body x) (counts_body depth x) x
unfolding body_parser
inner_body_rereads size depth x proper short = record { again = λ rest m. body_again (suc size) depth x rest proper (omega (arith, short)) }

-- what the program answers
module _ (tokens : List Token) (at d : ℕ) where
  activity_settles : (o : Outcome ActivityTree) → SettlesFrom (activity_family d) tokens at at o → SettlesFrom (activity_parser_family d) tokens at at o
  unfolding activity_parser
  activity_settles o h size prefixes m n = h (suc size) prefixes (omega (arith, m)) n

  pub activity_reads : (x : Result (ActivityNode × ℕ) SyntaxFault) → Reads view_activity (activity_family d) tokens at at 1 x → Reads view_activity (activity_parser_family d) tokens at at 1 x
  activity_reads (Ok x) g = record { settles = activity_settles _ g.settles; after = g.after; inside = g.inside }
  activity_reads (Err (the_fault.At k)) g = (activity_settles (Refused (drop k tokens)) g.0, g.1, g.2)
  activity_reads (Err (the_fault.Deep k)) g = (activity_settles (TooDeep (drop k tokens)) g.0, g.1, g.2)
  activity_reads (Err the_fault.NoMemory) g = tt

  body_settles : (o : Outcome BodyTree) → SettlesFrom (body_family d) tokens at at o → SettlesFrom (body_parser_family d) tokens at at o
  unfolding body_parser
  body_settles o h size prefixes m n = h (suc size) prefixes (omega (arith, m)) n

  pub body_reads : (x : Result (BodyNode × ℕ) SyntaxFault) → Reads view_body (body_family d) tokens at at 1 x → Reads view_body (body_parser_family d) tokens at at 1 x
  body_reads (Ok x) g = record { settles = body_settles _ g.settles; after = g.after; inside = g.inside }
  body_reads (Err (the_fault.At k)) g = (body_settles (Refused (drop k tokens)) g.0, g.1, g.2)
  body_reads (Err (the_fault.Deep k)) g = (body_settles (TooDeep (drop k tokens)) g.0, g.1, g.2)
  body_reads (Err the_fault.NoMemory) g = tt
