-- What parts that may be left out, and rows, give from what their parts give.
use Rattle.std.proofs.Common.{◌≡◌, ℕ, suc, ◌+◌, ◌<◌, ◌≤◌, Bool, true, false, if◌then◌else◌, List, [], length, drop, Some, Option, None, refl, sym, ap, subst, ◌∙◌, arith, zero}
use Rattle.pst_token.specs.declared.token.Token.{Token}
use Rattle.pst_ast.specs.Limits.{is_over}
use Rattle.pst_ast.specs.declared.fault.SyntaxFault.{SyntaxFault}
use Rattle.pst_ast.specs.declared.fault.SyntaxFault.TheVariants as the_fault
use Rattle.pst_reading.specs.Parser.{Parser, Done, followed_by, Outcome, Took, Refused, TooDeep, run, next}
use Rattle.pst_reading.specs.Options.{option_by, row_by}
use Rattle.pst_reading.specs.Gives.{Family, SettlesFrom, FailsFrom}
use Rattle.pst_reading.proofs.Giving.{settles_both, fails_first, done}

module _ (tokens : List Token) (start at : ℕ) where
  abbrev pub optional : {A : Type 0} → (Option Token → Bool) → Family A → Family (Option A)
  optional begins part m n = option_by begins (part m n)

  abbrev pub as_row : {A W : Type 0} → (List A → W) → Family (List A) → Family W
  as_row row list m n = row_by row (list m n)

  module _ {A : Type 0} (begins : Option Token → Bool) (part : Family A) where
    tested : (b : Bool) → begins (next (drop at tokens)) ≡ b → (o : Outcome (Option A)) → SettlesFrom (λ m n. if b then followed_by (part m n) (λ x. Done (Some x)) else Done None) tokens start at o → SettlesFrom (optional begins part) tokens start at o
    tested b e o h size prefixes m n = subst (λ (x : Bool). run is_over (if x then followed_by (part size prefixes) (λ y. Done (Some y)) else Done None) (drop at tokens) ≡ o) (sym e) (h size prefixes m n)

    pub option_absent : begins (next (drop at tokens)) ≡ false → SettlesFrom (optional begins part) tokens start at (Took None (drop at tokens))
    option_absent e = tested false e (Took None (drop at tokens)) (λ size prefixes m n. refl)

    pub option_present : begins (next (drop at tokens)) ≡ true → (x : A) (after : ℕ) → SettlesFrom part tokens start at (Took x (drop after tokens)) → SettlesFrom (optional begins part) tokens start at (Took (Some x) (drop after tokens))
    option_present e x after h = tested true e (Took (Some x) (drop after tokens)) (settles_both tokens start part (λ m n y. Done (Some y)) at after x (Took (Some x) (drop after tokens)) h (done tokens start after (Some x)))

    pub option_fails : begins (next (drop at tokens)) ≡ true → (e : SyntaxFault) → FailsFrom part tokens start at e → FailsFrom (optional begins part) tokens start at e
    option_fails present e h = go e (fails_first tokens start part (λ m n y. Done (Some y)) at e h)
      where
        go : (e : SyntaxFault) → FailsFrom (λ m n. followed_by (part m n) (λ x. Done (Some x))) tokens start at e → FailsFrom (optional begins part) tokens start at e
        go (the_fault.At k) f = (tested true present (Refused (drop k tokens)) f.0, f.1, f.2)
        go (the_fault.Deep k) f = (tested true present (TooDeep (drop k tokens)) f.0, f.1, f.2)
        go the_fault.NoMemory f = tt

  pub row_settles : {A W : Type 0} (row : List A → W) (list : Family (List A)) (xs : List A) (after : ℕ) → SettlesFrom list tokens start at (Took xs (drop after tokens)) → SettlesFrom (as_row row list) tokens start at (Took (row xs) (drop after tokens))
  row_settles row list xs after h = settles_both tokens start list (λ m n ys. Done (row ys)) at after xs (Took (row xs) (drop after tokens)) h (done tokens start after (row xs))

  pub row_fails : {A W : Type 0} (row : List A → W) (list : Family (List A)) (e : SyntaxFault) → FailsFrom list tokens start at e → FailsFrom (as_row row list) tokens start at e
  row_fails row list e h = fails_first tokens start list (λ m n ys. Done (row ys)) at e h

  -- a part of a smaller size, where what is left is shorter
  pub smaller : {A : Type 0} (part : ℕ → Parser A) (o : Outcome A) → start < at → at ≤ length tokens → SettlesFrom (λ m n. part (suc m)) tokens at at o → SettlesFrom (λ m n. part m) tokens start at o
  smaller part o lt le h zero prefixes m n = absurd (omega (arith, m, lt, le))
  smaller part o lt le h (suc size) prefixes m n = h size size (omega (arith, m, lt)) (omega (arith, m, lt))

  pub smaller_fault : {A : Type 0} (part : ℕ → Parser A) (e : SyntaxFault) → start < at → at ≤ length tokens → FailsFrom (λ m n. part (suc m)) tokens at at e → FailsFrom (λ m n. part m) tokens start at e
  smaller_fault part (the_fault.At k) lt le h = (smaller part (Refused (drop k tokens)) lt le h.0, h.1, h.2)
  smaller_fault part (the_fault.Deep k) lt le h = (smaller part (TooDeep (drop k tokens)) lt le h.0, h.1, h.2)
  smaller_fault part the_fault.NoMemory lt le h = tt
