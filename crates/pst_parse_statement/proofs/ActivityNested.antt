-- Statements within other parts.
use Rattle.std.proofs.Common.{◌≡◌, ℕ, suc, ◌<◌, ◌≤◌, List, length, subst}
use Rattle.pst_token.specs.declared.token.Token.{Token}
use Rattle.pst_ast.specs.declared.fault.SyntaxFault.{SyntaxFault}
use Rattle.pst_ast.specs.declared.fault.SyntaxFault.TheVariants as the_fault
use Rattle.pst_ast.specs.ActivityTree.{StatementTree}
use Rattle.pst_reading.specs.Parser.{Outcome}
use Rattle.pst_reading.specs.Gives.{SettlesFrom, FailsFrom}
use Rattle.pst_reading.proofs.Optional.{smaller, smaller_fault}
use Rattle.pst_parse_statement.specs.Activities.{statement_at}
use Rattle.pst_parse_statement.specs.ActivityFamilies.{statement_family}

-- a statement is one derivation more
statement_here : (tokens : List Token) (at d : ℕ) (o : Outcome StatementTree) → SettlesFrom (statement_family (suc d)) tokens at at o → SettlesFrom (λ m n. statement_at (suc m) d) tokens at at o
unfolding statement_at
statement_here tokens at d o h = h

statement_here_fails : (tokens : List Token) (at d : ℕ) (e : SyntaxFault) → FailsFrom (statement_family (suc d)) tokens at at e → FailsFrom (λ m n. statement_at (suc m) d) tokens at at e
unfolding statement_at
statement_here_fails tokens at d (the_fault.At k) h = h
statement_here_fails tokens at d (the_fault.Deep k) h = h
statement_here_fails tokens at d the_fault.NoMemory h = h

pub statement_nested : (tokens : List Token) (start at inner d : ℕ) → inner ≡ suc d → (o : Outcome StatementTree) → start < at → at ≤ length tokens → SettlesFrom (statement_family inner) tokens at at o → SettlesFrom (λ m n. statement_at m d) tokens start at o
statement_nested tokens start at inner d deeper o lt le h = smaller tokens start at (λ m. statement_at m d) o lt le (statement_here tokens at d o (subst (λ (x : ℕ). SettlesFrom (statement_family x) tokens at at o) deeper h))

pub statement_nested_fails : (tokens : List Token) (start at inner d : ℕ) → inner ≡ suc d → (e : SyntaxFault) → start < at → at ≤ length tokens → FailsFrom (statement_family inner) tokens at at e → FailsFrom (λ m n. statement_at m d) tokens start at e
statement_nested_fails tokens start at inner d deeper e lt le h = smaller_fault tokens start at (λ m. statement_at m d) e lt le (statement_here_fails tokens at d e (subst (λ (x : ℕ). FailsFrom (statement_family x) tokens at at e) deeper h))
