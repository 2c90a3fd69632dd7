-- Parts that may be left out, and choices, as functions of the program read them.
use Rattle.pst_ast.specs.Limits.{is_over}
use Rattle.pst_ast.specs.declared.fault.SyntaxFault.TheVariants as the_fault
use Rattle.pst_ast.specs.declared.fault.SyntaxFault.{SyntaxFault}
use Rattle.pst_parse_part.specs.Choices.{if_next, optional}
use Rattle.pst_reading.proofs.Giving.{settles_both, fails_first}
use Rattle.pst_reading.proofs.Reaching.{Reaches}
use Rattle.pst_reading.specs.Gives.{Family, SettlesFrom, FailsFrom}
use Rattle.pst_reading.specs.Parser.{Done, followed_by, next, run, Outcome, Took, Refused, TooDeep}
use Rattle.pst_token.specs.declared.token.Token.{Token}
use Rattle.std.proofs.Common.{refl, sym, ap, subst, ◌∙◌, ℕ, ◌≡◌, Bool, true, false, if◌then◌else◌, List, Option, Some, None, drop}

module _ {A : Type 0} (begins : Option Token → Bool) (part : Family A) (tokens : List Token) (at : ℕ) where
  test_settles : (b : Bool) → begins (next (drop at tokens)) ≡ b → (o : Outcome (Option A)) → SettlesFrom (λ m n. if b then followed_by (part m n) (λ x. Done (Some x)) else Done None) tokens at at o → SettlesFrom (optional begins part) tokens at at o
  test_settles b e o h size prefixes m n = subst (λ (x : Bool). run is_over (if x then followed_by (part size prefixes) (λ x. Done (Some x)) else Done None) (drop at tokens) ≡ o) (sym e) (h size prefixes m n)

  pub absent_given : begins (next (drop at tokens)) ≡ false → SettlesFrom (optional begins part) tokens at at (Took None (drop at tokens))
  absent_given e = test_settles false e (Took None (drop at tokens)) (λ size prefixes m n. refl)

  pub present_given : begins (next (drop at tokens)) ≡ true → (a : A) (after : ℕ) → SettlesFrom part tokens at at (Took a (drop after tokens)) → SettlesFrom (optional begins part) tokens at at (Took (Some a) (drop after tokens))
  present_given e a after h = test_settles true e (Took (Some a) (drop after tokens)) (settles_both tokens at part (λ m n x. Done (Some x)) at after a (Took (Some a) (drop after tokens)) h (λ size prefixes m n. refl))

  pub present_fails : begins (next (drop at tokens)) ≡ true → (f : SyntaxFault) → FailsFrom part tokens at at f → FailsFrom (optional begins part) tokens at at f
  present_fails e (the_fault.At k) h = let g = fails_first tokens at part (λ m n x. Done (Some x)) at (the_fault.At k) h in (test_settles true e (Refused (drop k tokens)) g.0, g.1, g.2)
  present_fails e (the_fault.Deep k) h = let g = fails_first tokens at part (λ m n x. Done (Some x)) at (the_fault.Deep k) h in (test_settles true e (TooDeep (drop k tokens)) g.0, g.1, g.2)
  present_fails e the_fault.NoMemory h = tt

module _ {A : Type 0} (whole : Family A) (tokens : List Token) (start at : ℕ) where
  -- a choice by a test of the next token
  pub choose_next : (begins : Option Token → Bool) (p q : Family A) (place : ℕ) (b : Bool) → begins (next (drop place tokens)) ≡ b → Reaches whole tokens start at (λ m n. if_next begins (p m n) (q m n)) place → Reaches whole tokens start at (λ m n. if b then p m n else q m n) place
  choose_next begins p q place b e r = record {
    same = λ size prefixes m n. r.same size prefixes m n ∙ ap (λ (x : Bool). run is_over (if x then p size prefixes else q size prefixes) (drop place tokens)) e;
    from = r.from;
  }
