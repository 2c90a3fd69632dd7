-- What letters, digits and `_` are.
use Rattle.std.proofs.Common.{◌≡◌, ℕ, Bool, true, false, List, Option, Some, None, slice_index, refl, ap, sym, subst, ◌∙◌}
use Rattle.std.proofs.lemmas.Bool.{cond-true, cond-false}
use Rattle.std.specs.Char.{is_ascii_digit}
use Rattle.pst_token.specs.declared.kind.Kind.{Kind}
use Rattle.pst_token.specs.Lookup.{kind_of}
use Rattle.pst_token.specs.Lexemes.{fixed, name, number, number_of}
use Rattle.pst_token.specs.Parts.{Part, lexeme}
use Rattle.pst_token.specs.Next.{word_part, number_part, fixed_or}
use Rattle.pst_lexer.specs.declared.find.Found.{Found}
use Rattle.pst_lexer.specs.declared.find.Found.TheVariants as found
use Rattle.pst_lexer.specs.Finding.{TellsNumber, TellsWord}

digit_part : (word : List ℕ) → is_ascii_digit (slice_index word 0) ≡ true → word_part word ≡ number_part word (number_of word)
unfolding word_part
digit_part word digit = cond-true (is_ascii_digit (slice_index word 0)) _ _ digit

other_part : (word : List ℕ) → is_ascii_digit (slice_index word 0) ≡ false → word_part word ≡ fixed_or (kind_of word) (Some (lexeme (name word)))
unfolding word_part
other_part word no_digit = cond-false (is_ascii_digit (slice_index word 0)) _ _ no_digit

pub digit_tells : (word : List ℕ) (r : Found) → is_ascii_digit (slice_index word 0) ≡ true → TellsNumber word r → TellsWord word r
digit_tells word found.Nothing digit h = digit_part word digit ∙ ap (number_part word) h
digit_tells word (found.Number value len) digit (n, same, below, all, is) = (n, same, below, all, digit_part word digit ∙ ap (number_part word) is)
digit_tells word found.Wide digit (n, above, is) = (n, above, digit_part word digit ∙ ap (number_part word) is)
digit_tells word (found.Open seen) digit h = absurd h
digit_tells word (found.Gap len) digit h = absurd h
digit_tells word (found.Fixed k len) digit h = absurd h
digit_tells word (found.Name len) digit h = absurd h

pub fixed_tells : (word : List ℕ) (k : Kind) → is_ascii_digit (slice_index word 0) ≡ false → kind_of word ≡ Some k → word_part word ≡ Some (lexeme (fixed k))
fixed_tells word k no_digit found = other_part word no_digit ∙ ap (λ o. fixed_or o (Some (lexeme (name word)))) found

pub name_tells : (word : List ℕ) → is_ascii_digit (slice_index word 0) ≡ false → kind_of word ≡ None → word_part word ≡ Some (lexeme (name word))
name_tells word no_digit none = other_part word no_digit ∙ ap (λ o. fixed_or o (Some (lexeme (name word)))) none
