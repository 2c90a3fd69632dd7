-- What was read behind a value that is kept, where its end may be an `if` without `else`, or where it is put on the heap.
use Rattle.std.proofs.Common.{subst, sym, inl, inr, ℕ, ◌≡◌, ◌⊎◌, Bool, List, Result, Ok, Err}
use Rattle.pst_token.specs.declared.token.Token.{Token}
use Rattle.pst_ast.specs.declared.fault.SyntaxFault.{SyntaxFault}
use Rattle.pst_ast.specs.declared.fault.SyntaxFault.TheVariants as the_fault
use Rattle.pst_reading.specs.Gives.{Family, FailsFrom}
use Rattle.pst_reading.specs.Reads.{Reads, ReadsOpen, ReadOpen}
use Rattle.pst_parse_member.proofs.Kept.{part_fault}

-- want of memory tells nothing of the tokens
no_memory_fails : {A : Type 0} (family : Family A) (tokens : List Token) (start at : ℕ) (e : SyntaxFault) → e ≡ the_fault.NoMemory → FailsFrom family tokens start at e
no_memory_fails family tokens start at e none = subst (λ (f : SyntaxFault). FailsFrom family tokens start at f) (sym none) tt

-- a part on the heap
pub boxed_fault : {X A : Type 0} (view : X → A) (family : Family A) (tokens : List Token) (start at least : ℕ) (r : Result (X × ℕ) SyntaxFault) (e : SyntaxFault) → (e ≡ the_fault.NoMemory) ⊎ (r ≡ Err e) → Reads view family tokens start at least r → FailsFrom family tokens start at e
boxed_fault view family tokens start at least r e (inl none) h = no_memory_fails family tokens start at e none
boxed_fault view family tokens start at least r e (inr same) h = part_fault view family tokens start at least r e same h

-- a part whose end may be an `if` without `else`
module _ {X A : Type 0} (view : X → A) (ends_open : A → Bool) (family : Family A) (tokens : List Token) (start at : ℕ) where
  pub open_fault : (r : Result (X × ℕ) SyntaxFault) (e : SyntaxFault) → r ≡ Err e → ReadsOpen view ends_open family tokens start at r → FailsFrom family tokens start at e
  open_fault r e same h = subst (λ (x : Result (X × ℕ) SyntaxFault). ReadsOpen view ends_open family tokens start at x) same h

  pub open_read : (r : Result (X × ℕ) SyntaxFault) (x : X × ℕ) → r ≡ Ok x → ReadsOpen view ends_open family tokens start at r → ReadOpen view ends_open family tokens start at x
  open_read r x same h = subst (λ (y : Result (X × ℕ) SyntaxFault). ReadsOpen view ends_open family tokens start at y) same h

  -- the same on the heap
  pub boxed_open_fault : (r : Result (X × ℕ) SyntaxFault) (e : SyntaxFault) → (e ≡ the_fault.NoMemory) ⊎ (r ≡ Err e) → ReadsOpen view ends_open family tokens start at r → FailsFrom family tokens start at e
  boxed_open_fault r e (inl none) h = no_memory_fails family tokens start at e none
  boxed_open_fault r e (inr same) h = open_fault r e same h
