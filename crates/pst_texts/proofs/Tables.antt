-- Texts have one own table, and in it one list of tokens each.
use Rattle.std.proofs.Common.{◌≡◌, ◌∙◌, ℕ, suc, List, [], ◌∷◌, length, refl, ap₂, sym, subst, arith}
use Rattle.pst_base.specs.Names.{AreDifferent}
use Rattle.pst_token.specs.declared.token.Token.{Token}
use Rattle.pst_lexer.specs.Numbering.{AreNumbered}
use Rattle.pst_lexer.proofs.OwnTables.{Agree, same_text, same_tables}
use Rattle.pst_texts.specs.Texts.{AreTokensInTurn, TokensOfTextsAreOne, OneTextHasItsOwn}

-- what two tables with the same first names make of the same texts
record AreSame (names others : List (List ℕ)) (tokens more : List (List Token)) (next after : ℕ) : Type 0 where
  pub tokens_same : tokens ≡ more
  pub next_same : next ≡ after
  pub agree : Agree names others next

same_through : (names others : List (List ℕ)) → AreDifferent names → AreDifferent others → (file : ℕ) (texts : List (List ℕ)) (tokens more : List (List Token)) (free next after : ℕ) → Agree names others free
    → AreTokensInTurn file names texts tokens free next → AreTokensInTurn file others texts more free after → AreSame names others tokens more next after
same_through names others d e file [] [] [] free next after agree h k = record { tokens_same = refl; next_same = h ∙ sym k; agree = subst (Agree names others) (sym h) agree }
same_through names others d e file [] [] (u ∷ us) free next after agree h k = absurd k
same_through names others d e file [] (t ∷ ts) us free next after agree h k = absurd h
same_through names others d e file (text ∷ texts) [] us free next after agree h k = absurd h
same_through names others d e file (text ∷ texts) (t ∷ ts) [] free next after agree h k = absurd k
same_through names others d e file (text ∷ texts) (t ∷ ts) (u ∷ us) free next after agree (middle, are, here, rest) (other, too, there, more) =
    let one = same_text file text names others free t u middle other d e agree are too here there in
    let all = same_through names others d e (suc file) texts ts us middle next after one.agree rest (subst (λ n. AreTokensInTurn (suc file) others texts us n after) (sym one.next_same) more) in
    record { tokens_same = ap₂ (λ x xs. x ∷ xs) one.tokens_same all.tokens_same; next_same = all.next_same; agree = all.agree }

pub one_table : TokensOfTextsAreOne
one_table texts names others tokens more h k =
    let all = same_through names others h.different k.different 0 texts tokens more 0 (length names) (length others) (λ n below. absurd (omega (arith, below))) h.are k.are in
    (same_tables names others all.next_same all.agree, all.tokens_same)

pub alone : OneTextHasItsOwn
alone text names tokens = (
  λ h. record { are = h.are.1; different = h.different; numbered = subst (λ n. AreNumbered 0 tokens n) (sym h.are.3) h.are.2 },
  λ h. record { different = h.different; are = (length names, h.are, h.numbered, refl) },
)
