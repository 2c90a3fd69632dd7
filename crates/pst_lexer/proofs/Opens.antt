-- What is known of the bytes that have been looked at.
use Rattle.std.proofs.Common.{◌≡◌, ℕ, zero, suc, ◌<◌, Bool, true, false, cond, not, ◌&&◌, ◌||◌, List, [], ◌∷◌, ◌++◌, Option, Some, None, length, take, drop, slice_index, codes, nat_eq, refl, ap, sym, subst, ◌∙◌, arith}
use Rattle.std.proofs.lemmas.Bool.{cond-true, and_from}
use Rattle.std.specs.List.{list_all, starts_with}
use Rattle.std.specs.Option.{is_none}
use Rattle.pst_token.specs.Lexemes.{is_word_byte}
use Rattle.pst_token.specs.Parts.{Part, blank, is_blank, is_line_feed}
use Rattle.pst_token.specs.Next.{next, closed_len}
use Rattle.pst_token.proofs.Closed.{starts_two}
use Rattle.pst_lexer.specs.Finding.{MayFollow, Begins, is_open}

pub open_word : (text : List ℕ) (seen : ℕ) → is_word_byte (slice_index text 0) ≡ true → is_open (take seen text) ≡ true → list_all is_word_byte (take seen text) ≡ true
open_word [] zero word open_so = refl
open_word [] (suc seen) word open_so = refl
open_word (b ∷ text) zero word open_so = refl
open_word (b ∷ text) (suc seen) word open_so = and_from (is_word_byte b) _ word (sym (cond-true (is_word_byte b) _ _ word) ∙ open_so)

or_false : (t : Bool) → (t || false) ≡ true → t ≡ true
or_false true h = refl
or_false false h = h

none_is : (o : Option ℕ) → is_none o ≡ true → o ≡ None
none_is None h = refl
none_is (Some n) h = cc

open_slashes : (after : List ℕ) (seen : ℕ) → is_open (take seen (47 ∷ 47 ∷ after)) ≡ true → list_all (λ b. not (is_line_feed b)) (take seen (47 ∷ 47 ∷ after)) ≡ true
open_slashes after zero open_so = refl
open_slashes after (suc zero) open_so = refl
open_slashes after (suc (suc seen)) open_so = or_false _ open_so

pub open_line : (text : List ℕ) (seen : ℕ) → starts_with nat_eq text (codes "//") ≡ true → is_open (take seen text) ≡ true → list_all (λ b. not (is_line_feed b)) (take seen text) ≡ true
open_line text seen starts open_so =
    let (after, is) = starts_two 47 47 text starts in
    subst (λ t. list_all (λ b. not (is_line_feed b)) (take seen t) ≡ true) (sym is) (open_slashes after seen (subst (λ t. is_open (take seen t) ≡ true) is open_so))

open_stars : (after : List ℕ) (seen : ℕ) → is_open (take seen (47 ∷ 42 ∷ after)) ≡ true → closed_len (drop 2 (take seen (47 ∷ 42 ∷ after))) ≡ None
open_stars after zero open_so = refl
open_stars after (suc zero) open_so = refl
open_stars after (suc (suc seen)) open_so = none_is (closed_len (take seen after)) open_so

pub open_block : (text : List ℕ) (seen : ℕ) → starts_with nat_eq text (codes "/*") ≡ true → is_open (take seen text) ≡ true → closed_len (drop 2 (take seen text)) ≡ None
open_block text seen starts open_so =
    let (after, is) = starts_two 47 42 text starts in
    subst (λ t. closed_len (drop 2 (take seen t)) ≡ None) (sym is) (open_stars after seen (subst (λ t. is_open (take seen t) ≡ true) is open_so))

pub blank_begins : (text : List ℕ) (is_last : Bool) → 0 < length text → is_blank (slice_index text 0) ≡ true → Begins text is_last 1 (blank (slice_index text 0))
unfolding next
blank_begins [] is_last some is_one = absurd (omega arith)
blank_begins (b ∷ text) is_last some is_one = record {
  some = omega arith;
  within = omega arith;
  bytes = refl;
  found = λ more may. cond-true (is_blank b) _ _ is_one;
}
