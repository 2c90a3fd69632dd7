-- What a function of the program answers of a part that is in no expression.
use Rattle.std.specs.Prelude.{ℕ, ◌+◌, ◌≤◌, ◌≡◌, Bool, true, false, List, length, drop, Result, Ok, Err}
use Rattle.pst_token.specs.declared.kind.Kind.TheVariants as kind
use Rattle.pst_token.specs.declared.token.Token.{Token}
use Rattle.pst_ast.specs.declared.fault.SyntaxFault.{SyntaxFault}
use Rattle.pst_reading.specs.Kinds.{is_mark, next_is}
use Rattle.pst_reading.specs.Parser.{Took, next}
use Rattle.pst_reading.specs.Gives.{Family, SettlesFrom, FailsFrom}

-- a value and the place behind it, at least so many tokens on; for all bounds that suffice from start on
pub record Read {X A : Type 0} (view : X → A) (family : Family A) (tokens : List Token) (start at least : ℕ) (x : X × ℕ) : Type 0 where
  pub settles : SettlesFrom family tokens start at (Took (view x.0) (drop x.1 tokens))
  pub after : at + least ≤ x.1
  pub inside : x.1 ≤ length tokens

-- view forgets where a value lies in memory
abbrev pub Reads : {X A : Type 0} → (X → A) → Family A → List Token → ℕ → ℕ → ℕ → Result (X × ℕ) SyntaxFault → Type 0
Reads view family tokens start at least (Ok x) = Read view family tokens start at least x
Reads view family tokens start at least (Err fault) = FailsFrom family tokens start at fault

-- the same of a part whose end may be an `if` without `else`: where it is, no `else` stands behind
pub record ReadOpen {X A : Type 0} (view : X → A) (ends_open : A → Bool) (family : Family A) (tokens : List Token) (start at : ℕ) (x : X × ℕ) : Type 0 where
  pub settles : SettlesFrom family tokens start at (Took (view x.0) (drop x.1 tokens))
  pub after : at + 1 ≤ x.1
  pub inside : x.1 ≤ length tokens
  pub no_else : ends_open (view x.0) ≡ true → next_is (is_mark kind.Else) (next (drop x.1 tokens)) ≡ false

abbrev pub ReadsOpen : {X A : Type 0} → (X → A) → (A → Bool) → Family A → List Token → ℕ → ℕ → Result (X × ℕ) SyntaxFault → Type 0
ReadsOpen view ends_open family tokens start at (Ok x) = ReadOpen view ends_open family tokens start at x
ReadsOpen view ends_open family tokens start at (Err fault) = FailsFrom family tokens start at fault
