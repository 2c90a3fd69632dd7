-- What a function of the program answers is what a parser makes of the tokens.
use Rattle.std.specs.Prelude.{ℕ, ◌+◌, ◌≡◌, ◌≤◌, List, length, drop, Result, Ok, Err}
use Rattle.pst_token.specs.declared.token.Token.{Token}
use Rattle.pst_ast.specs.Limits.{is_over}
use Rattle.pst_ast.specs.declared.fault.SyntaxFault.{SyntaxFault}
use Rattle.pst_ast.specs.declared.fault.SyntaxFault.TheVariants as the_fault
use Rattle.pst_reading.specs.Parser.{Parser, Outcome, Took, Refused, TooDeep, run}

-- a parser for each bound on parts within one another and turns of a loop, and for each bound on operators in front of a part
abbrev pub Family : Type 0 → Type 0
Family A = ℕ → ℕ → Parser A

-- within the limits this is the outcome from a place on, for all bounds that suffice for the tokens from start on
abbrev pub SettlesFrom : {A : Type 0} → Family A → List Token → ℕ → ℕ → Outcome A → Type 0
SettlesFrom family tokens start at outcome = (size prefixes : ℕ) → length tokens ≤ size + start → length tokens ≤ prefixes + start → run is_over (family size prefixes) (drop at tokens) ≡ outcome

abbrev pub FailsFrom : {A : Type 0} → Family A → List Token → ℕ → ℕ → SyntaxFault → Type 0
FailsFrom family tokens start at (the_fault.At k) = SettlesFrom family tokens start at (Refused (drop k tokens)) × (at ≤ k) × (k ≤ length tokens)
FailsFrom family tokens start at (the_fault.Deep k) = SettlesFrom family tokens start at (TooDeep (drop k tokens)) × (at ≤ k) × (k ≤ length tokens)
FailsFrom family tokens start at the_fault.NoMemory = Unit {0}

-- a value, the place behind it, at least so many tokens on, and the operators in front of that; for all bounds that suffice from start on
pub record Given {X A : Type 0} (view : X → A) (operators : A → ℕ) (family : Family A) (tokens : List Token) (start at before least : ℕ) (x : X × ℕ × ℕ) : Type 0 where
  pub settles : SettlesFrom family tokens start at (Took (view x.0) (drop x.1 tokens))
  pub after : at + least ≤ x.1
  pub inside : x.1 ≤ length tokens
  pub counted : x.2 ≡ before + operators (view x.0)
  pub within : x.2 ≤ 256

-- view forgets where a value lies in memory
abbrev pub Gives : {X A : Type 0} → (X → A) → (A → ℕ) → Family A → List Token → ℕ → ℕ → ℕ → ℕ → Result (X × ℕ × ℕ) SyntaxFault → Type 0
Gives view operators family tokens start at before least (Ok x) = Given view operators family tokens start at before least x
Gives view operators family tokens start at before least (Err fault) = FailsFrom family tokens start at fault

-- the same of a single token
abbrev pub Expects : {A : Type 0} → Parser A → List Token → ℕ → Result A SyntaxFault → Type 0
Expects parser tokens at (Ok x) = (run is_over parser (drop at tokens) ≡ Took x (drop (at + 1) tokens)) × (at + 1 ≤ length tokens)
Expects parser tokens at (Err (the_fault.At k)) = (run is_over parser (drop at tokens) ≡ Refused (drop k tokens)) × (k ≡ at)
Expects parser tokens at (Err (the_fault.Deep k)) = (run is_over parser (drop at tokens) ≡ TooDeep (drop k tokens)) × (k ≡ at) × (k ≤ length tokens)
Expects parser tokens at (Err the_fault.NoMemory) = ⊥
