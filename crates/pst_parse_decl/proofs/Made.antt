-- A part that is the whole, where nothing else is left of it.
use Rattle.std.proofs.Common.{ℕ, ◌≤◌, List, drop, arith}
use Rattle.pst_token.specs.declared.token.Token.{Token}
use Rattle.pst_ast.specs.declared.fault.SyntaxFault.{SyntaxFault}
use Rattle.pst_reading.specs.Gives.{Family, SettlesFrom, FailsFrom}
use Rattle.pst_reading.specs.Parser.{Done, followed_by, Took}
use Rattle.pst_reading.proofs.Reaching.{Reaches, step, ends, fails}

module _ {A B : Type 0} (whole : Family B) (part : Family A) (make : A → B) (tokens : List Token) (at : ℕ) (r : Reaches whole tokens at at (λ m n. followed_by (part m n) (λ x. Done (make x))) at) where
  pub made_fails : (e : SyntaxFault) → FailsFrom part tokens at at e → FailsFrom whole tokens at at e
  made_fails e h = fails whole tokens at at part _ at at e (omega arith) h r

  pub made_given : (a : A) (after : ℕ) → at ≤ after → SettlesFrom part tokens at at (Took a (drop after tokens)) → SettlesFrom whole tokens at at (Took (make a) (drop after tokens))
  made_given a after le h = ends whole tokens at at _ after (step whole tokens at at part _ at at after a (omega arith) le h r)
