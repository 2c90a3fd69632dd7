-- A mark at the front of a text, whatever follows.
use Rattle.std.proofs.Common.{◌≡◌, ℕ, zero, suc, ◌<◌, ◌≤◌, Bool, true, false, not, ◌&&◌, ◌||◌, ◌⊎◌, inl, inr, List, [], ◌∷◌, ◌++◌, Option, Some, None, length, take, slice_index, codes, nat_eq, refl, ap, sym, subst, ◌∙◌, arith, append-nil}
use Rattle.std.proofs.lemmas.Bool.{and_from}
use Rattle.std.specs.List.{starts_with}
use Rattle.pst_token.specs.declared.kind.Kind.{Kind}
use Rattle.pst_token.specs.Spelling.{spelling_of}
use Rattle.pst_token.specs.Lookup.{kind_of}
use Rattle.pst_token.specs.Lexemes.{fixed, is_word_byte}
use Rattle.pst_token.specs.Parts.{Part, lexeme, is_blank, begins_comment}
use Rattle.pst_token.specs.Next.{next, mark_part, fixed_or}
use Rattle.pst_token.proofs.Found.{spelled_as}
use Rattle.pst_token.proofs.NextFinds.{next-mark}
use Rattle.pst_lexer.specs.Finding.{MayFollow, Begins, BeginsNone}
use Rattle.pst_lexer.proofs.Follows.{nothing_follows}

-- a text that begins with neither a blank nor a word nor a comment, and of which two bytes are known or all
pub record IsMarked (text : List ℕ) (is_last : Bool) : Type 0 where
  pub some : 0 < length text
  pub two : (2 ≤ length text) ⊎ (is_last ≡ true)
  pub no_word : is_word_byte (slice_index text 0) ≡ false
  pub no_blank : is_blank (slice_index text 0) ≡ false
  pub no_comment : begins_comment text ≡ false

-- what `next` finds there
marked_next : (text : List ℕ) (is_last : Bool) → IsMarked text is_last → (more : List ℕ) → MayFollow is_last more
    → next (text ++ more) ≡ fixed_or (kind_of (take 2 text)) (fixed_or (kind_of (take 1 text)) None)
unfolding mark_part
marked_next [] is_last marked more may = absurd (omega (arith, marked.some))
marked_next (b ∷ []) is_last marked more may =
    let last : is_last ≡ true = elim marked.two [ inl two ↦ absurd (omega arith) | inr last ↦ last ] in
    let nothing : more ≡ [] = nothing_follows is_last more last may in
    ap (λ m. next (b ∷ m)) nothing
    ∙ next-mark b [] (and_from (not (is_word_byte b)) (not (is_blank b)) (ap not marked.no_word) (ap not marked.no_blank)) marked.no_comment
marked_next (b ∷ c ∷ bytes) is_last marked more may =
    next-mark b ((c ∷ bytes) ++ more) (and_from (not (is_word_byte b)) (not (is_blank b)) (ap not marked.no_word) (ap not marked.no_blank)) marked.no_comment

pub two_begins : (text : List ℕ) (is_last : Bool) (k : Kind) → IsMarked text is_last → 2 ≤ length text → kind_of (take 2 text) ≡ Some k → Begins text is_last 2 (lexeme (fixed k))
two_begins text is_last k marked within found = record {
  some = omega arith;
  within = within;
  bytes = (spelled_as (take 2 text) k found).0;
  found = λ more may. marked_next text is_last marked more may ∙ ap (λ o. fixed_or o (fixed_or (kind_of (take 1 text)) None)) found;
}

-- no mark of two bytes, in a text of a single byte as well
no_two : (text : List ℕ) → length text < 2 → take 2 text ≡ take 1 text
no_two [] short = refl
no_two (b ∷ []) short = refl
no_two (b ∷ c ∷ bytes) short = absurd (omega arith)

pub one_begins : (text : List ℕ) (is_last : Bool) (k : Kind) → IsMarked text is_last → (length text < 2) ⊎ (kind_of (take 2 text) ≡ None) → kind_of (take 1 text) ≡ Some k → Begins text is_last 1 (lexeme (fixed k))
one_begins text is_last k marked no_longer found = record {
  some = omega arith;
  within = marked.some;
  bytes = (spelled_as (take 1 text) k found).0;
  found = λ more may. marked_next text is_last marked more may ∙ by_two no_longer;
}
  where
    by_two : (length text < 2) ⊎ (kind_of (take 2 text) ≡ None) → fixed_or (kind_of (take 2 text)) (fixed_or (kind_of (take 1 text)) None) ≡ Some (lexeme (fixed k))
    by_two (inl short) = ap (λ o. fixed_or o (fixed_or (kind_of (take 1 text)) None)) (ap kind_of (no_two text short) ∙ found)
    by_two (inr none) = ap (λ o. fixed_or o (fixed_or (kind_of (take 1 text)) None)) none ∙ ap (λ o. fixed_or o None) found

pub mark_none : (text : List ℕ) (is_last : Bool) → IsMarked text is_last → (length text < 2) ⊎ (kind_of (take 2 text) ≡ None) → kind_of (take 1 text) ≡ None → BeginsNone text is_last
mark_none text is_last marked no_longer none more may = marked_next text is_last marked more may ∙ by_two no_longer
  where
    by_two : (length text < 2) ⊎ (kind_of (take 2 text) ≡ None) → fixed_or (kind_of (take 2 text)) (fixed_or (kind_of (take 1 text)) None) ≡ None
    by_two (inl short) = ap (λ o. fixed_or o (fixed_or (kind_of (take 1 text)) None)) (ap kind_of (no_two text short) ∙ none) ∙ ap (λ o. fixed_or o None) none
    by_two (inr no_longer_one) = ap (λ o. fixed_or o (fixed_or (kind_of (take 1 text)) None)) no_longer_one ∙ ap (λ o. fixed_or o None) none
