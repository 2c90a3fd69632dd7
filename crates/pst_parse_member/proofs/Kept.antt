-- What was read behind a value that is kept.
use Rattle.pst_ast.specs.declared.fault.SyntaxFault.{SyntaxFault}
use Rattle.pst_reading.specs.Gives.{Family, FailsFrom, Expects}
use Rattle.pst_reading.specs.Parser.{Parser}
use Rattle.pst_reading.specs.Reads.{Reads, Read}
use Rattle.pst_token.specs.declared.token.Token.{Token}
use Rattle.std.proofs.Common.{ap, subst, ℕ, ◌≡◌, List, Result, Ok, Err}

-- a part
module _ {X A : Type 0} (view : X → A) (family : Family A) (tokens : List Token) (start at least : ℕ) where
  pub part_fault : (r : Result (X × ℕ) SyntaxFault) (e : SyntaxFault) → r ≡ Err e → Reads view family tokens start at least r → FailsFrom family tokens start at e
  part_fault r e same h = subst (λ (x : Result (X × ℕ) SyntaxFault). Reads view family tokens start at least x) same h

  pub part_read : (r : Result (X × ℕ) SyntaxFault) (x : X × ℕ) → r ≡ Ok x → Reads view family tokens start at least r → Read view family tokens start at least x
  part_read r x same h = subst (λ (y : Result (X × ℕ) SyntaxFault). Reads view family tokens start at least y) same h

-- a token
module _ {A : Type 0} (p : Parser A) (tokens : List Token) (at : ℕ) where
  pub token_fault : (r : Result A SyntaxFault) (e : SyntaxFault) → r ≡ Err e → Expects p tokens at r → Expects p tokens at (Err e)
  token_fault r e same h = subst (λ (x : Result A SyntaxFault). Expects p tokens at x) same h

  pub token_read : (r : Result A SyntaxFault) (a : A) → r ≡ Ok a → Expects p tokens at r → Expects p tokens at (Ok a)
  token_read r a same h = subst (λ (x : Result A SyntaxFault). Expects p tokens at x) same h

-- the values of a pair that is kept
pub first_kept : {A B : Type 0} (x y : A × B) → x ≡ y → x.0 ≡ y.0
first_kept x y e = ap (λ (z : _ × _). z.0) e

pub second_kept : {A B : Type 0} (x y : A × B) → x ≡ y → x.1 ≡ y.1
second_kept x y e = ap (λ (z : _ × _). z.1) e
