-- The part that `next` finds may stand before what is left of the text.
use Rattle.std.proofs.Common.{◌≡◌, ◌≢◌, ℕ, suc, ◌+◌, ◌≤◌, Bool, true, false, not, cond, ◌&&◌, ◌||◌, ◌⊎◌, inl, inr, List, [], ◌∷◌, ◌++◌, Option, Some, None, take, drop, length, slice_index, nat_eq, codes, refl, ap, sym, subst, ◌∙◌, arith, length-append, take-append-drop}
use Rattle.std.proofs.lemmas.Bool.{cond-true, cond-false, and_parts, and_from, both_ways}
use Rattle.std.specs.Char.{is_ascii_digit}
use Rattle.std.specs.List.{list_all, take_while, prefix_len, starts_with}
use Rattle.std.specs.Option.{option_map}
use Rattle.pst_token.specs.declared.kind.Kind.{Kind}
use Rattle.pst_token.specs.Spelling.{spelling_of}
use Rattle.pst_token.specs.Lookup.{kind_of}
use Rattle.pst_token.specs.Lexemes.{Lexeme, fixed, name, number, spelled, IsLexeme, IsName, is_word_byte, is_name_start, is_word, number_of}
use Rattle.pst_token.specs.Parts.{Part, blank, comment, lexeme, bytes_of, is_blank, is_line_feed, GoesOnWith, IsLineComment, IsBlockComment, IsClosed, begins_comment, IsLongest, EndsWell, IsWhole, MayStand}
use Rattle.pst_token.specs.Next.{next, word_part, number_part, fixed_or, mark_part, block_part, line_part, closed_len}
use Rattle.std.proofs.Math.Seq.{take-append_seam}
use Rattle.pst_token.proofs.Fronts.{front_within}
use Rattle.pst_token.proofs.Bytes.{is_mark, is_mark_byte, word_byte_name_start, word_byte_no_slash, mark_byte_no_word}
use Rattle.pst_token.proofs.Runs.{take_while-yes, list_all-take_while, ends-take_while}
use Rattle.pst_token.proofs.Closed.{starts_two, closed_reaches, closed_found}
use Rattle.pst_token.proofs.Found.{spelled_as, reads_back}
use Rattle.pst_token.proofs.LexemeLemmas.{is_run, word_run, number_numeric, lexeme_shape, mark_no_run, longest_run}
use Rattle.pst_token.proofs.NextFinds.{word_lexeme}
use Rattle.pst_token.proofs.Fits.{Fits}
use Rattle.pst_token.proofs.NextComments.{line_fits, block_fits}

no_slash : (b : ℕ) (bytes : List ℕ) → nat_eq 47 b ≡ false → begins_comment (b ∷ bytes) ≡ false
no_slash b [] other = rw other refl
no_slash b (c ∷ bytes) other = rw other refl

ends_well : (l : Lexeme) (rest : List ℕ) → GoesOnWith (λ b. not (is_word_byte b)) rest → EndsWell l rest
ends_well (fixed k) rest ends = tt
ends_well (name bytes) rest ends = tt
ends_well (number bytes value) rest ends = ends

-- what a run is
pub record IsRunOf (run : List ℕ) (part : Part) : Type 0 where
  pub l : Lexeme
  pub is : part ≡ lexeme l
  pub is_lexeme : IsLexeme l
  pub spells : spelled l ≡ run

run_part : (run : List ℕ) (part : Part) → is_run run ≡ true → word_part run ≡ Some part → IsRunOf run part
unfolding word_part
run_part [] part h found = cc
run_part (b ∷ bytes) part h found = by_digit (is_ascii_digit b) refl found
  where
    by_number : (o : Option ℕ) → number_of (b ∷ bytes) ≡ o → number_part (b ∷ bytes) o ≡ Some part → IsRunOf (b ∷ bytes) part
    by_number (Some value) is_number e =
        let same : lexeme (number (b ∷ bytes) value) ≡ part = cc in
        record { l = number (b ∷ bytes) value; is = sym same; is_lexeme = is_number; spells = refl }
    by_number None no_number e = cc

    by_digit : (t : Bool) → is_ascii_digit b ≡ t
        → cond t (number_part (b ∷ bytes) (number_of (b ∷ bytes))) (fixed_or (kind_of (b ∷ bytes)) (Some (lexeme (name (b ∷ bytes))))) ≡ Some part → IsRunOf (b ∷ bytes) part
    by_digit true digit e = by_number (number_of (b ∷ bytes)) refl e
    by_digit false digit e =
        let parts = and_parts (is_word_byte b) (list_all is_word_byte bytes) h in
        let word : is_word (b ∷ bytes) ≡ true = and_from (is_name_start b) _ (word_byte_name_start b parts.0 digit) parts.1 in
        let (l, fact) = word_lexeme (b ∷ bytes) word in
        let same : lexeme l ≡ part = cc in
        record { l = l; is = sym same; is_lexeme = fact.is_lexeme; spells = fact.spells }

run_fits : (b : ℕ) (bytes : List ℕ) (part : Part) → is_word_byte b ≡ true → word_part (take_while is_word_byte (b ∷ bytes)) ≡ Some part → Fits (b ∷ bytes) part
run_fits b bytes part word found =
    let run : List ℕ = take_while is_word_byte (b ∷ bytes) in
    let begins : run ≡ b ∷ take_while is_word_byte bytes = take_while-yes is_word_byte b bytes word in
    let is_one : is_run run ≡ true = ap is_run begins ∙ and_from (is_word_byte b) _ word (list_all-take_while is_word_byte bytes) in
    let fact = run_part run part is_one found in
    let rest : List ℕ = drop (prefix_len is_word_byte (b ∷ bytes)) (b ∷ bytes) in
    let split : run ++ rest ≡ b ∷ bytes = take-append-drop (prefix_len is_word_byte (b ∷ bytes)) (b ∷ bytes) in
    let ends = ends-take_while is_word_byte (b ∷ bytes) in
    record {
      rest = rest;
      split = sym (ap (λ p. bytes_of p ++ rest) fact.is ∙ ap (λ bs. bs ++ rest) fact.spells ∙ split);
      stands = subst (λ p. MayStand p rest) (sym fact.is) (record {
        spells = fact.is_lexeme;
        longest = subst (λ bs. IsLongest bs rest) (sym fact.spells) (longest_run run rest is_one ends);
        no_comment = ap (λ bs. begins_comment (bs ++ rest)) fact.spells ∙ ap begins_comment split ∙ no_slash b bytes (word_byte_no_slash b word);
        ends = ends_well fact.l rest ends;
      });
    }

-- a lexeme that begins with such a byte is a mark
no_run_mark : (b : ℕ) (bytes : List ℕ) (l : Lexeme) → is_mark_byte b ≡ true → IsLexeme l → spelled l ≡ b ∷ bytes → is_mark (b ∷ bytes) ≡ true
no_run_mark b bytes l mark is_lexeme spells =
    elim (lexeme_shape l is_lexeme) [
      | inl run ↦
          let all : is_run (b ∷ bytes) ≡ true = rw spells at run in
          absurd (both_ways (is_word_byte b) (mark_byte_no_word b mark) (and_parts (is_word_byte b) (list_all is_word_byte bytes) all).0)
      | inr is_one ↦ rw spells at is_one
    ]

-- a lexeme that begins with such a byte is found by its spelling
mark_kind : (b : ℕ) (bytes : List ℕ) (l : Lexeme) → is_mark_byte b ≡ true → IsLexeme l → spelled l ≡ b ∷ bytes → kind_of (b ∷ bytes) ≡ None → ⊥
mark_kind b bytes (fixed k) mark is_lexeme spells none =
    let back : kind_of (b ∷ bytes) ≡ Some k = reads_back (b ∷ bytes) k is_lexeme spells in
    cc
mark_kind b bytes (name word) mark is_lexeme spells none =
    let run : is_run (b ∷ bytes) ≡ true = ap is_run (sym spells) ∙ word_run word is_lexeme.word in
    both_ways (is_word_byte b) (mark_byte_no_word b mark) (and_parts (is_word_byte b) (list_all is_word_byte bytes) run).0
mark_kind b bytes (number digits value) mark is_lexeme spells none =
    let run : is_run (b ∷ bytes) ≡ true = ap is_run (sym spells) ∙ (number_numeric digits value is_lexeme).run in
    both_ways (is_word_byte b) (mark_byte_no_word b mark) (and_parts (is_word_byte b) (list_all is_word_byte bytes) run).0

-- a mark of two bytes is the longest
longest_two : (b c : ℕ) (rest : List ℕ) → is_mark_byte b ≡ true → IsLongest (b ∷ c ∷ []) rest
longest_two b c rest mark other [] after is_lexeme spells goes_on = refl
longest_two b c rest mark other (m ∷ more) after is_lexeme spells goes_on =
    let no_mark : is_mark (b ∷ c ∷ m ∷ more) ≡ true = no_run_mark b (c ∷ m ∷ more) other mark is_lexeme spells in
    cc

-- a mark of one byte is the longest where no mark of two bytes stands
longest_one : (b : ℕ) (rest : List ℕ) → is_mark_byte b ≡ true → kind_of (take 2 (b ∷ rest)) ≡ None → IsLongest (b ∷ []) rest
longest_one b rest mark none other [] after is_lexeme spells goes_on = refl
longest_one b [] mark none other (m ∷ more) after is_lexeme spells goes_on = cc
longest_one b (c ∷ rest) mark none other (m ∷ n ∷ more) after is_lexeme spells goes_on =
    let no_mark : is_mark (b ∷ m ∷ n ∷ more) ≡ true = no_run_mark b (m ∷ n ∷ more) other mark is_lexeme spells in
    cc
longest_one b (c ∷ rest) mark none other (m ∷ []) after is_lexeme spells goes_on =
    let same : c ≡ m = cc in
    absurd (mark_kind b (c ∷ []) other mark is_lexeme (spells ∙ ap (λ (x : ℕ). b ∷ x ∷ []) (sym same)) none)

-- a mark before the rest of the text
mark_stands : (k : Kind) (bytes rest : List ℕ) → kind_of bytes ≡ Some k → IsLongest bytes rest → begins_comment (bytes ++ rest) ≡ false → Fits (bytes ++ rest) (lexeme (fixed k))
mark_stands k bytes rest found longest no_comment =
    let spells = spelled_as bytes k found in
    record {
      rest = rest;
      split = ap (λ bs. bs ++ rest) (sym spells.0);
      stands = record {
        spells = spells.1;
        longest = subst (λ bs. IsLongest bs rest) (sym spells.0) longest;
        no_comment = ap (λ bs. begins_comment (bs ++ rest)) spells.0 ∙ no_comment;
        ends = tt;
      };
    }

mark_fits : (b : ℕ) (bytes : List ℕ) (part : Part) → is_mark_byte b ≡ true → begins_comment (b ∷ bytes) ≡ false → mark_part (b ∷ bytes) ≡ Some part → Fits (b ∷ bytes) part
unfolding mark_part
mark_fits b bytes part mark no_comment found = by_two bytes no_comment (kind_of (take 2 (b ∷ bytes))) refl found
  where
    by_one : (bs : List ℕ) → begins_comment (b ∷ bs) ≡ false → kind_of (take 2 (b ∷ bs)) ≡ None → (o : Option Kind) → kind_of (b ∷ []) ≡ o → fixed_or o None ≡ Some part → Fits (b ∷ bs) part
    by_one bs clear none (Some k) one e =
        let same : lexeme (fixed k) ≡ part = cc in
        subst (Fits (b ∷ bs)) same (mark_stands k (b ∷ []) bs one (longest_one b bs mark none) clear)
    by_one bs clear none None one e = cc

    by_two : (bs : List ℕ) → begins_comment (b ∷ bs) ≡ false → (o : Option Kind) → kind_of (take 2 (b ∷ bs)) ≡ o → fixed_or o (fixed_or (kind_of (b ∷ [])) None) ≡ Some part → Fits (b ∷ bs) part
    by_two bs clear None two e = by_one bs clear two (kind_of (b ∷ [])) refl e
    by_two [] clear (Some k) two e =
        let same : lexeme (fixed k) ≡ part = cc in
        subst (Fits (b ∷ [])) same (mark_stands k (b ∷ []) [] two (λ other more after is_lexeme spells goes_on. nothing_more more after goes_on) clear)
      where
        nothing_more : (more after : List ℕ) → [] ≡ more ++ after → more ≡ []
        nothing_more [] after e = refl
        nothing_more (m ∷ more) after e = cc
    by_two (c ∷ bs) clear (Some k) two e =
        let same : lexeme (fixed k) ≡ part = cc in
        subst (Fits (b ∷ c ∷ bs)) same (mark_stands k (b ∷ c ∷ []) bs two (longest_two b c bs mark) clear)

-- what is found begins the text
pub next_fits : (text : List ℕ) (part : Part) → next text ≡ Some part → Fits text part
unfolding next
next_fits [] part found = cc
next_fits (b ∷ bytes) part found = by_blank (is_blank b) refl found
  where
    text : List ℕ
    text = b ∷ bytes

    marks : Option Part
    marks = mark_part (b ∷ bytes)

    blocks : Option Part
    blocks = cond (starts_with nat_eq (b ∷ bytes) (codes "/*")) (block_part (b ∷ bytes)) marks

    lines : Option Part
    lines = cond (starts_with nat_eq (b ∷ bytes) (codes "//")) (line_part (b ∷ bytes)) blocks

    words : Option Part
    words = cond (is_word_byte b) (word_part (take_while is_word_byte (b ∷ bytes))) lines

    by_block : (t : Bool) → starts_with nat_eq (b ∷ bytes) (codes "/*") ≡ t → is_blank b ≡ false → is_word_byte b ≡ false → starts_with nat_eq (b ∷ bytes) (codes "//") ≡ false
        → cond t (block_part (b ∷ bytes)) marks ≡ Some part → Fits (b ∷ bytes) part
    by_block true starts no_blank no_word no_line e = block_fits (b ∷ bytes) part starts e
    by_block false no_block no_blank no_word no_line e =
        mark_fits b bytes part (and_from (not (is_word_byte b)) (not (is_blank b)) (ap not no_word) (ap not no_blank)) (ap (λ t. t || starts_with nat_eq (b ∷ bytes) (codes "/*")) no_line ∙ no_block) e

    by_line : (t : Bool) → starts_with nat_eq (b ∷ bytes) (codes "//") ≡ t → is_blank b ≡ false → is_word_byte b ≡ false → cond t (line_part (b ∷ bytes)) blocks ≡ Some part → Fits (b ∷ bytes) part
    by_line true starts no_blank no_word e = line_fits (b ∷ bytes) part starts e
    by_line false no_line no_blank no_word e = by_block (starts_with nat_eq (b ∷ bytes) (codes "/*")) refl no_blank no_word no_line e

    by_word : (t : Bool) → is_word_byte b ≡ t → is_blank b ≡ false → cond t (word_part (take_while is_word_byte (b ∷ bytes))) lines ≡ Some part → Fits (b ∷ bytes) part
    by_word true word no_blank e = run_fits b bytes part word e
    by_word false no_word no_blank e = by_line (starts_with nat_eq (b ∷ bytes) (codes "//")) refl no_blank no_word e

    by_blank : (t : Bool) → is_blank b ≡ t → cond t (Some (blank b)) words ≡ Some part → Fits (b ∷ bytes) part
    by_blank true is_one e =
        let same : blank b ≡ part = cc in
        subst (Fits (b ∷ bytes)) same (record { rest = bytes; split = refl; stands = is_one })
    by_blank false no_blank e = by_word (is_word_byte b) refl no_blank e
