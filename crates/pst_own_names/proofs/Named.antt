-- Each text of the own table of texts is the name of a token.
use Rattle.std.proofs.Common.{◌≡◌, ◌<◌, ◌≤◌, ℕ, suc, List, [], ◌∷◌, ◌++◌, length, Bool, true, false, nat_lt, refl, sym, ap, subst, ◌∙◌, arith}
use Rattle.std.specs.Prelude.{slice_get, Some, pos, slice_index_or}
use Rattle.std.proofs.lemmas.Bool.Decides.{nat_tests}
use Rattle.std.proofs.lemmas.Option.{slice_get-get_or}
use Rattle.pst_base.specs.declared.position.Place.{Place}
use Rattle.pst_token.specs.declared.kind.Kind.{Kind}
use Rattle.pst_token.specs.declared.kind.Kind.TheVariants as kind
use Rattle.pst_token.specs.declared.token.Token.{Token}
use Rattle.pst_token.specs.Spelling.{spelling_of}
use Rattle.pst_token.specs.Lexemes.{Lexeme, fixed, name, number, IsLexeme, IsName}
use Rattle.pst_token.specs.Parts.{Part, blank, comment, lexeme, Stand, bytes_of}
use Rattle.pst_token.specs.Tokens.{lexemes_after, lexemes_of, token_of, IsTokenOf, AreTokensOf, AreTokens, place_after}
use Rattle.pst_lexer.specs.Numbering.{Other, Known, New, AreNumbered}
use Rattle.pst_texts.specs.Texts.{AreTokensInTurn}
use Rattle.pst_own_names.specs.Names.{NamesOfTextsAreNames}

-- ---- lexemes

abbrev AreProper : List (Lexeme × Place) → Type 0
AreProper [] = Unit {0}
AreProper (l ∷ more) = IsLexeme l.0 × AreProper more

proper : (file : ℕ) (before : List ℕ) (parts : List Part) (rest : List ℕ) → Stand parts rest → AreProper (lexemes_after file before parts)
proper file before [] rest stand = tt
proper file before (blank b ∷ parts) rest (may, narrow, stand) = proper file (before ++ b ∷ []) parts rest stand
proper file before (comment bytes ∷ parts) rest (may, narrow, stand) = proper file (before ++ bytes) parts rest stand
proper file before (lexeme l ∷ parts) rest (may, narrow, stand) = (may.spells, proper file (before ++ bytes_of (lexeme l)) parts rest stand)

-- ---- tokens

abbrev spells_nothing : Kind → Type 0
spells_nothing kind = spelling_of kind ≡ []

abbrev is_name : Kind → Type 0
is_name kind.Name = Unit {0}
is_name _ = ⊥

number_is_no_name : (k : Kind) → k ≡ kind.Number → k ≡ kind.Name → ⊥
number_is_no_name k one other = subst is_name (sym other ∙ one) tt

end_is_no_name : (k : Kind) → k ≡ kind.End → k ≡ kind.Name → ⊥
end_is_no_name k one other = subst is_name (sym other ∙ one) tt

module _ (names : List (List ℕ)) where
  -- a name stands under the number
  record HasName (id : ℕ) : Type 0 where
    bytes : List ℕ
    is : slice_get names id ≡ Some bytes
    proper : IsName bytes

  abbrev IsNamed : Token → Type 0
  IsNamed token = token.kind ≡ kind.Name → HasName token.name.0

  abbrev AreNamed : List Token → Type 0
  AreNamed [] = Unit {0}
  AreNamed (token ∷ more) = IsNamed token × AreNamed more

  token_named : (l : Lexeme) (place : Place) (token : Token) → IsLexeme l → IsTokenOf names l place token → IsNamed token
  token_named (fixed k) place token own is named = absurd (own (ap spelling_of (sym (ap (λ (t : Token). t.kind) is) ∙ named)))
  token_named (name bytes) place token own (id, there, is) named =
      record { bytes = bytes; is = ap (λ (t : Token). slice_get names t.name.0) is ∙ there; proper = own }
  token_named (number bytes value) place token own is named = absurd (number_is_no_name token.kind (ap (λ (t : Token). t.kind) is) named)

  tokens_named : (lexemes : List (Lexeme × Place)) (tokens : List Token) → AreProper lexemes → AreTokensOf names lexemes tokens → AreNamed tokens
  tokens_named [] [] own are = tt
  tokens_named [] (token ∷ tokens) own are = absurd are
  tokens_named (l ∷ lexemes) [] own are = absurd are
  tokens_named (l ∷ lexemes) (token ∷ tokens) (own, others) (is, are) = (token_named l.0 l.1 token own is, tokens_named lexemes tokens others are)

  named_append : (tokens more : List Token) → AreNamed tokens → AreNamed more → AreNamed (tokens ++ more)
  named_append [] more own others = others
  named_append (token ∷ tokens) more (own, rest) others = (own, named_append tokens more rest others)

  text_named : (file : ℕ) (text : List ℕ) (tokens : List Token) → AreTokens file names text tokens → AreNamed tokens
  text_named file text tokens are =
      subst AreNamed (sym are.all)
      (named_append are.before_end (token_of kind.End 0 (pos 0) (place_after file text) ∷ [])
      (tokens_named (lexemes_of file are.parts) are.before_end (proper file [] are.parts [] are.reading.front.stand) are.each)
      ((λ same. absurd (end_is_no_name kind.End refl same)), tt))

  -- ---- numbers

  abbrev HaveNames : ℕ → ℕ → Type 0
  HaveNames free next = (id : ℕ) → free ≤ id → id < next → HasName id

  numbered : (tokens : List Token) (free next : ℕ) → AreNamed tokens → AreNumbered free tokens next → HaveNames free next
  numbered [] free next own is id least below = absurd (omega (arith, is, least, below))
  numbered (token ∷ tokens) free next (own, others) (_, Other is, rest) id least below = numbered tokens free next others rest id least below
  numbered (token ∷ tokens) free next (own, others) (_, Known is low, rest) id least below = numbered tokens free next others rest id least below
  numbered (token ∷ tokens) free next (own, others) (_, New is same, rest) id least below = by (λ far. numbered tokens (suc free) next others rest id far below) (nat_lt free id) refl
    where
      by : (suc free ≤ id → HasName id) → (b : Bool) → nat_lt free id ≡ b → HasName id
      by later true is = let far : free < id = grind (arith, nat_tests, is) in later (omega (arith, far))
      by later false here =
          let near : id ≤ free = grind (arith, nat_tests, here) in
          let one : free ≡ id = omega (arith, near, least) in
          subst HasName (same ∙ one) (own is)

  in_turn : (file : ℕ) (texts : List (List ℕ)) (tokens : List (List Token)) (free next : ℕ) → AreTokensInTurn file names texts tokens free next → HaveNames free next
  in_turn file [] [] free next is id least below = absurd (omega (arith, is, least, below))
  in_turn file [] (ts ∷ tokens) free next is id least below = absurd is
  in_turn file (text ∷ texts) [] free next is id least below = absurd is
  in_turn file (text ∷ texts) (ts ∷ tokens) free next (middle, are, numbers, rest) id least below = by (λ far. in_turn (suc file) texts tokens middle next rest id far below) (nat_lt id middle) refl
    where
      by : (middle ≤ id → HasName id) → (b : Bool) → nat_lt id middle ≡ b → HasName id
      by later true early = let near : id < middle = grind (arith, nat_tests, early) in numbered ts free middle (text_named file text ts are) numbers id least near
      by later false late = let far : middle ≤ id = grind (arith, nat_tests, late) in later far

pub names_are_names : NamesOfTextsAreNames
names_are_names texts names tokens are k d below = by (in_turn names 0 texts tokens 0 (length names) are.are k (omega arith) below)
  where
    inside : {X : Type 0} {x y : X} → Some x ≡ Some y → x ≡ y
    inside e = cc

    by : HasName names k → IsName (slice_index_or names k d)
    by own = subst IsName (inside (sym own.is ∙ slice_get-get_or names k d below)) own.proper
