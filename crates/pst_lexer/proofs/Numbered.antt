-- Tokens whose names are numbered in the order in which they first stand.
use Rattle.std.proofs.Common.{◌≡◌, ◌≢◌, ◌∙◌, ℕ, suc, ◌+◌, ◌<◌, ◌≤◌, ◌⊎◌, inl, inr, Bool, true, false, List, [], ◌∷◌, ◌++◌, length, length-append, ⊎_elim, refl, ap, sym, subst, arith, ℤ, pos, Result, Ok, Err, OnOk}
use Rattle.std.specs.Prelude.{slice_get, Some, None, Option}
use Rattle.std.specs.List.{list_any}
use Rattle.std.specs.Str.{bytes_eq}
use Rattle.std.proofs.lemmas.Slice.Eq.{bytes_eq-Decides}
use Rattle.std.proofs.lemmas.Bool.{cond-true, cond-false}
use Rattle.std.proofs.lemmas.Option.{slice_get_within, slice_get_cases}
use Rattle.std.proofs.lemmas.Map.Keys.{any_passes_from_place}
use Rattle.pst_base.specs.Names.{with_text}
use Rattle.pst_token.proofs.TokenLists.{slice_get-longer}
use Rattle.pst_base.specs.declared.position.Place.{Place}
use Rattle.pst_token.specs.declared.kind.Kind.{Kind}
use Rattle.pst_token.specs.declared.kind.Kind.TheVariants as kind
use Rattle.pst_token.specs.declared.token.Token.{Token}
use Rattle.pst_token.specs.Tokens.{token_of}
use Rattle.pst_lexer.specs.declared.fault.LexFault.{LexFault}
use Rattle.pst_lexer.specs.declared.scan.Scanner.{Scanner}
use Rattle.pst_lexer.specs.Scanning.{Adds}
use Rattle.pst_lexer.specs.Numbering.{Numbers, Other, Known, New, AreNumbered, StayNumbered}

-- one more token
pub numbered_on : (first : ℕ) (tokens : List Token) (next : ℕ) (token : Token) (free : ℕ) → AreNumbered first tokens next → Numbers next token free → AreNumbered first (tokens ++ token ∷ []) free
numbered_on first [] next token free h one = (free, subst (λ n. Numbers n token free) h one, refl)
numbered_on first (t ∷ tokens) next token free (middle, here, rest) one = (middle, here, numbered_on middle tokens next token free rest one)

-- a token that is no name
pub stay_other : (tokens all : List Token) (next : ℕ) (k : Kind) (id : ℕ) (value : ℤ) (place : Place) → k ≢ kind.Name → all ≡ tokens ++ token_of k id value place ∷ [] → StayNumbered tokens next all next
stay_other tokens all next k id value place other same first h =
    subst (λ ts. AreNumbered first ts next) (sym same) (numbered_on first tokens next (token_of k id value place) next h (Other other))

-- nothing changes
pub stay_same : (tokens all : List Token) (next free : ℕ) → all ≡ tokens → free ≡ next → StayNumbered tokens next all free
stay_same tokens all next free same number first h = subst (λ ts. AreNumbered first ts free) (sym same) (subst (λ n. AreNumbered first tokens n) (sym number) h)

-- a text that stands in the table once it was added
pub text_numbers : (names : List (List ℕ)) (text : List ℕ) (id : ℕ) (token : Token) → token.kind ≡ kind.Name → token.name.0 ≡ id → slice_get (with_text names text) id ≡ Some text → Numbers (length names) token (length (with_text names text))
text_numbers names text id token named number there = by_cases (list_any (bytes_eq text) names) refl
  where
    by_cases : (b : Bool) → list_any (bytes_eq text) names ≡ b → Numbers (length names) token (length (with_text names text))
    by_cases true e =
        let same : with_text names text ≡ names = cond-true (list_any (bytes_eq text) names) names (names ++ text ∷ []) e in
        let within : id < length names = slice_get_within names id text (subst (λ table. slice_get table id ≡ Some text) same there) in
        subst (λ table. Numbers (length names) token (length table)) (sym same) (Known named (subst (λ n. n < length names) (sym number) within))
    by_cases false e =
        let same : with_text names text ≡ names ++ text ∷ [] = cond-false (list_any (bytes_eq text) names) names (names ++ text ∷ []) e in
        let last : slice_get (names ++ text ∷ []) id ≡ Some text = subst (λ table. slice_get table id ≡ Some text) same there in
        let longer : length (names ++ text ∷ []) ≡ suc (length names) = length-append names (text ∷ []) ∙ omega arith in
        let at : id ≡ length names = new_at e last in
        subst (λ table. Numbers (length names) token (length table)) (sym same) (subst (λ n. Numbers (length names) token n) (sym longer) (New named (number ∙ at)))
      where
        new_at : list_any (bytes_eq text) names ≡ false → slice_get (names ++ text ∷ []) id ≡ Some text → id ≡ length names
        new_at none last = ⊎_elim (
            λ found.
            let there = slice_get-longer names (text ∷ []) id found.0 found.2 in
            let one : Some found.0 ≡ Some text = sym there ∙ last in
            let same : found.0 ≡ text = cc in
            let any = any_passes_from_place (bytes_eq text) names id text (subst (λ x. slice_get names id ≡ Some x) same found.2) ((bytes_eq-Decides text text).1 refl) in
            absurd (cc (any, none))
            ) (
            λ past.
            let within = slice_get_within (names ++ text ∷ []) id text last in
            let behind = past.0 in
            omega (arith, within, behind, length-append names (text ∷ []))
            ) (slice_get_cases names id).1

-- a name was added
pub stay_name : (r : Result Bool LexFault) (old new : Scanner) (names others : List (List ℕ)) (text : List ℕ) (id len : ℕ)
    → slice_get others id ≡ Some text → others ≡ with_text names text → OnOk r ((r ≡ Ok true) × Adds old new len kind.Name id (pos 0))
    → OnOk r (StayNumbered old.tokens.items (length names) new.tokens.items (length others))
stay_name (Ok b) old new names others text id len there all ok =
    λ first h.
    let token = token_of kind.Name id (pos 0) old.place in
    let one : Numbers (length names) token (length others) =
    subst (λ table. Numbers (length names) token (length table)) (sym all)
    (text_numbers names text id token refl refl (subst (λ table. slice_get table id ≡ Some text) all there)) in
    subst (λ ts. AreNumbered first ts (length others)) (sym ok.1.passed.tokens) (numbered_on first old.tokens.items (length names) token (length others) h one)
stay_name (Err f) old new names others text id len there all ok = tt

-- another token was added
pub stay_added : (r : Result Bool LexFault) (old new : Scanner) (names : List (List ℕ)) (k : Kind) (id len : ℕ) (value : ℤ) → k ≢ kind.Name
    → OnOk r ((r ≡ Ok true) × Adds old new len k id value) → OnOk r (StayNumbered old.tokens.items (length names) new.tokens.items (length names))
stay_added (Ok b) old new names k id len value other ok = stay_other old.tokens.items new.tokens.items (length names) k id value old.place other ok.1.passed.tokens
stay_added (Err f) old new names k id len value other ok = tt
