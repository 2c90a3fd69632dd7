-- What may follow a text.
use Rattle.std.proofs.Common.{◌≡◌, ℕ, ◌≤◌, Bool, true, false, List, [], ◌∷◌, ◌++◌, length, take, drop, refl, ap, sym, subst, ◌∙◌, arith, append_assoc, take-append-drop, length-drop}
use Rattle.std.proofs.lemmas.List.{nil_from_length}
use Rattle.pst_token.specs.Parts.{GoesOnWith}
use Rattle.pst_lexer.specs.Finding.{MayFollow}

-- nothing follows the last bytes
pub nothing_follows : (is_last : Bool) (more : List ℕ) → is_last ≡ true → MayFollow is_last more → more ≡ []
nothing_follows true more last may = may
nothing_follows false more last may = cc

-- bytes behind a rest that has some, or none behind one that has none
pub goes_on : (passes : ℕ → Bool) (rest more : List ℕ) → GoesOnWith passes rest → (rest ≡ [] → more ≡ []) → GoesOnWith passes (rest ++ more)
goes_on passes [] [] h none = tt
goes_on passes [] (m ∷ more) h none = let nothing : m ∷ more ≡ [] = none refl in cc
goes_on passes (b ∷ rest) more h none = h

-- a front of the text, and what may follow it
pub ends_follow : (passes : ℕ → Bool) (text : List ℕ) (is_last : Bool) (len : ℕ) → len ≤ length text → GoesOnWith passes (drop len text) → (len ≡ length text → is_last ≡ true)
    → (more : List ℕ) → MayFollow is_last more → GoesOnWith passes (drop len text ++ more)
ends_follow passes text is_last len within ends settled more may =
    goes_on passes (drop len text) more ends (λ none. nothing_follows is_last more (settled (let lengths = ap length none in omega (arith, length-drop len text))) may)

-- a text cut in two, and what follows it
pub cut : (text more : List ℕ) (len : ℕ) → text ++ more ≡ take len text ++ (drop len text ++ more)
cut text more len = ap (λ bs. bs ++ more) (sym (take-append-drop len text)) ∙ append_assoc (take len text) (drop len text) more
