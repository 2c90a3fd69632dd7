-- What the trees of bodies spell, from the laws of their parsers.
use Rattle.std.proofs.Common.{◌≡◌, ℕ, ◌<◌, ◌≤◌, length, drop, length-drop, Ok, Err, Result, List, None, Some, Option, ◌++◌, ◌∷◌, [], ◌⊎◌, inl, arith}
use Rattle.pst_token.specs.declared.token.Token.{Token}
use Rattle.pst_ast.specs.BodyTree.{BodyTree}
use Rattle.pst_ast.specs.BodySpelling.{spell_body}
use Rattle.pst_ast.specs.BodyProper.{IsProperBody}
use Rattle.pst_ast.specs.BodyView.{view_body}
use Rattle.pst_ast.specs.Laws.{AtMostOneTree}
use Rattle.pst_ast.specs.Rule.{TheBody}
use Rattle.pst_ast.specs.Viable.{IsViable}
use Rattle.pst_ast.specs.Limits.{is_over}
use Rattle.pst_ast.specs.Answers.{AnswersBody}
use Rattle.pst_ast.specs.declared.body.BodyNode.{BodyNode}
use Rattle.pst_ast.specs.declared.fault.SyntaxFault.{SyntaxFault}
use Rattle.pst_ast.specs.declared.fault.SyntaxFault.TheVariants as the_fault
use Rattle.pst_reading.specs.Parser.{Outcome, run}
use Rattle.pst_reading.specs.Ended.{IsEnded}
use Rattle.pst_reading.specs.Gives.{SettlesFrom}
use Rattle.pst_reading.specs.Reads.{Reads}
use Rattle.pst_reading.proofs.Final.{one_tree}
use Rattle.pst_reading.proofs.Whole.{read_answer, stopped_answer, deep_answer}
use Rattle.pst_parse_body.specs.Bodies.{body_at}
use Rattle.pst_parse_body.specs.BodyFamilies.{body_family}
use Rattle.pst_parse_body.proofs.BodyExplains.{body_explains}
use Rattle.pst_parse_body.proofs.BodyAgain.{body_again}
use Rattle.pst_parse_body.proofs.BodyNoEnd.{body_free}

-- its last token closes a body
abbrev StopsBody : BodyTree → Option Token → Type 0
StopsBody b next = Unit {0}

ends : (b : BodyTree) → IsProperBody b → StopsBody b None
ends b proper = tt

decide : (b : BodyTree) (t : Token) → IsProperBody b → StopsBody b (Some t) ⊎ IsViable TheBody (spell_body b ++ t ∷ [])
decide b t proper = inl tt

pub one_body : AtMostOneTree TheBody
one_body = one_tree TheBody 0 (λ n. body_at n 0) (λ n. body_explains n 0) StopsBody (λ n b rest proper short stops. body_again n 0 b rest proper short) ends decide

-- what the parser of the whole gives at each size
at_size : (tokens : List Token) (start depth : ℕ) (o : Outcome BodyTree) → SettlesFrom (body_family depth) tokens start start o → start ≤ length tokens → (n : ℕ) → length (drop start tokens) < n → run is_over (body_at n depth) (drop start tokens) ≡ o
at_size tokens start depth o h le n lt = h n n (omega (arith, lt, length-drop start tokens, le)) (omega (arith, lt, length-drop start tokens, le))

module _ (tokens : List Token) (start depth : ℕ) (e : IsEnded tokens) (lt : start < length tokens) where
  pub body_answers : (x : Result (BodyNode × ℕ) SyntaxFault) → Reads view_body (body_family depth) tokens start start 1 x → AnswersBody tokens start depth x
  body_answers (Ok x) g = read_answer TheBody depth (λ n. body_at n depth) (λ n. body_explains n depth) StopsBody (λ n b rest proper short stops. body_again n depth b rest proper short) ends decide body_free tokens start e lt (view_body x.0) x.1 (omega (arith, g.after)) g.inside (at_size tokens start depth _ g.settles (omega (arith, lt)))
  body_answers (Err (the_fault.At k)) g = stopped_answer TheBody depth (λ n. body_at n depth) (λ n. body_explains n depth) StopsBody (λ n b rest proper short stops. body_again n depth b rest proper short) ends decide body_free tokens start e lt k g.1 g.2 (at_size tokens start depth _ g.0 (omega (arith, lt)))
  body_answers (Err (the_fault.Deep k)) g = deep_answer TheBody depth (λ n. body_at n depth) (λ n. body_explains n depth) StopsBody (λ n b rest proper short stops. body_again n depth b rest proper short) ends decide body_free tokens start e lt k g.1 g.2 (at_size tokens start depth _ g.0 (omega (arith, lt)))
  body_answers (Err the_fault.NoMemory) g = tt
