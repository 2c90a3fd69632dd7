-- Parsers of rules, put together from what their parts give.
use Rattle.std.proofs.Common.{◌≡◌, ℕ, zero, suc, ◌+◌, ◌<◌, ◌≤◌, Bool, true, false, if◌then◌else◌, List, [], ◌∷◌, ◌++◌, length, drop, Some, Option, None, refl, sym, ap, subst, ◌∙◌, arith, Ok, Err, Result}
use Rattle.pst_token.specs.declared.token.Token.{Token}
use Rattle.pst_token.specs.declared.kind.Kind.{Kind}
use Rattle.pst_ast.specs.Limits.{Count, is_over}
use Rattle.pst_ast.specs.declared.fault.SyntaxFault.{SyntaxFault}
use Rattle.pst_ast.specs.declared.fault.SyntaxFault.TheVariants as the_fault
use Rattle.pst_reading.specs.Kinds.{is_mark, next_is}
use Rattle.pst_reading.specs.Parser.{Parser, Done, Wrong, Spent, Look, Take, followed_by, Outcome, Took, Refused, TooDeep, run, next, if_mark, turn, repeat_by}
use Rattle.pst_reading.specs.Gives.{Family, SettlesFrom, FailsFrom, Expects}
use Rattle.pst_reading.proofs.Becoming.{run_followed}

module _ (tokens : List Token) (start : ℕ) where
  -- what suffices from an earlier place on suffices from a later one
  pub later : {A : Type 0} (F : Family A) (at : ℕ) (o : Outcome A) → start ≤ at → SettlesFrom F tokens at at o → SettlesFrom F tokens start at o
  later F at o le h size prefixes m n = h size prefixes (omega (arith, m, le)) (omega (arith, n, le))

  pub later_fault : {A : Type 0} (F : Family A) (at : ℕ) (e : SyntaxFault) → start ≤ at → FailsFrom F tokens at at e → FailsFrom F tokens start at e
  later_fault F at (the_fault.At k) le h = (later F at (Refused (drop k tokens)) le h.0, h.1, h.2)
  later_fault F at (the_fault.Deep k) le h = (later F at (TooDeep (drop k tokens)) le h.0, h.1, h.2)
  later_fault F at the_fault.NoMemory le h = tt

  pub done : {A : Type 0} (at : ℕ) (a : A) → SettlesFrom (λ m n. Done a) tokens start at (Took a (drop at tokens))
  done at a size prefixes m n = refl

  -- one parser after another
  pub settles_both : {A B : Type 0} (p : Family A) (f : ℕ → ℕ → A → Parser B) (at after : ℕ) (a : A) (o : Outcome B) → SettlesFrom p tokens start at (Took a (drop after tokens)) → SettlesFrom (λ m n. f m n a) tokens start after o → SettlesFrom (λ m n. followed_by (p m n) (f m n)) tokens start at o
  settles_both p f at after a o h k size prefixes m n = rw (run_followed is_over (p size prefixes) (f size prefixes) (drop at tokens), h size prefixes m n) (k size prefixes m n)

  pub fails_first : {A B : Type 0} (p : Family A) (f : ℕ → ℕ → A → Parser B) (at : ℕ) (e : SyntaxFault) → FailsFrom p tokens start at e → FailsFrom (λ m n. followed_by (p m n) (f m n)) tokens start at e
  fails_first p f at (the_fault.At k) h = (λ size prefixes m n. rw (run_followed is_over (p size prefixes) (f size prefixes) (drop at tokens), h.0 size prefixes m n) refl, h.1, h.2)
  fails_first p f at (the_fault.Deep k) h = (λ size prefixes m n. rw (run_followed is_over (p size prefixes) (f size prefixes) (drop at tokens), h.0 size prefixes m n) refl, h.1, h.2)
  fails_first p f at the_fault.NoMemory h = tt

  pub fails_then : {A B : Type 0} (p : Family A) (f : ℕ → ℕ → A → Parser B) (at after : ℕ) (a : A) (e : SyntaxFault) → at ≤ after → SettlesFrom p tokens start at (Took a (drop after tokens)) → FailsFrom (λ m n. f m n a) tokens start after e → FailsFrom (λ m n. followed_by (p m n) (f m n)) tokens start at e
  fails_then p f at after a (the_fault.At k) le h g = (settles_both p f at after a (Refused (drop k tokens)) h g.0, omega (arith, le, g.1), g.2)
  fails_then p f at after a (the_fault.Deep k) le h g = (settles_both p f at after a (TooDeep (drop k tokens)) h g.0, omega (arith, le, g.1), g.2)
  fails_then p f at after a the_fault.NoMemory le h g = tt

  -- a single token
  pub token_given : {A : Type 0} (p : Parser A) (at : ℕ) (a : A) → run is_over p (drop at tokens) ≡ Took a (drop (at + 1) tokens) → SettlesFrom (λ m n. p) tokens start at (Took a (drop (at + 1) tokens))
  token_given p at a h size prefixes m n = h

  pub token_fails : {A : Type 0} (p : Parser A) (at : ℕ) (e : SyntaxFault) → at ≤ length tokens → Expects p tokens at (Err e) → FailsFrom (λ m n. p) tokens start at e
  token_fails p at (the_fault.At k) le h = (λ size prefixes m n. h.0, omega (arith, h.1), omega (arith, h.1, le))
  token_fails p at (the_fault.Deep k) le h = (λ size prefixes m n. h.0, omega (arith, h.1), h.2)
  token_fails p at the_fault.NoMemory le h = tt

  -- a choice by the next token
  pub settles_choice : {A : Type 0} (k : Kind) (p q : Family A) (at : ℕ) (o : Outcome A) (b : Bool) → next_is (is_mark k) (next (drop at tokens)) ≡ b → SettlesFrom (λ m n. if b then p m n else q m n) tokens start at o → SettlesFrom (λ m n. if_mark k (p m n) (q m n)) tokens start at o
  settles_choice k p q at o b e h size prefixes m n = subst (λ (x : Bool). run is_over (if x then p size prefixes else q size prefixes) (drop at tokens) ≡ o) (sym e) (h size prefixes m n)

  pub fails_choice : {A : Type 0} (k : Kind) (p q : Family A) (at : ℕ) (e : SyntaxFault) (b : Bool) → next_is (is_mark k) (next (drop at tokens)) ≡ b → FailsFrom (λ m n. if b then p m n else q m n) tokens start at e → FailsFrom (λ m n. if_mark k (p m n) (q m n)) tokens start at e
  fails_choice k p q at (the_fault.At i) b e h = (settles_choice k p q at (Refused (drop i tokens)) b e h.0, h.1, h.2)
  fails_choice k p q at (the_fault.Deep i) b e h = (settles_choice k p q at (TooDeep (drop i tokens)) b e h.0, h.1, h.2)
  fails_choice k p q at the_fault.NoMemory b e h = tt
