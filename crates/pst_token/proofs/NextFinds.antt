-- A part that may stand before the rest of a text is the one that `next` finds there.
use Rattle.std.proofs.Common.{◌≡◌, ◌≢◌, ℕ, suc, ◌+◌, ◌≤◌, Bool, true, false, not, cond, ◌&&◌, ◌||◌, ◌⊎◌, inl, inr, List, [], ◌∷◌, ◌++◌, Option, Some, None, take, drop, length, slice_index, nat_eq, codes, refl, ap, sym, subst, ◌∙◌, arith, length-append}
use Rattle.std.proofs.lemmas.Bool.{not-true, cond-true, cond-false, and_parts, and_from, or_cases, both_ways}
use Rattle.std.specs.Char.{is_ascii_digit}
use Rattle.std.specs.List.{list_all, take_while, starts_with}
use Rattle.std.specs.Option.{option_map}
use Rattle.pst_token.specs.declared.kind.Kind.{Kind}
use Rattle.pst_token.specs.Spelling.{spelling_of}
use Rattle.pst_token.specs.Lookup.{kind_of}
use Rattle.pst_token.specs.Lexemes.{Lexeme, fixed, name, number, spelled, IsLexeme, IsName, is_word_byte, is_name_start, is_word, number_of}
use Rattle.pst_token.specs.Parts.{Part, blank, comment, lexeme, bytes_of, is_blank, is_line_feed, GoesOnWith, IsLineComment, IsBlockComment, IsClosed, begins_comment, IsLongest, IsWhole, MayStand}
use Rattle.pst_token.specs.Next.{next, word_part, number_part, fixed_or, mark_part, block_part, line_part, closed_len}
use Rattle.pst_token.proofs.Bytes.{is_nothing, is_mark, is_mark_byte, word_byte_no_blank, name_start_no_digit, name_start_word_byte}
use Rattle.std.proofs.Math.Seq.{take-append_seam}
use Rattle.pst_token.proofs.Fronts.{front_within}
use Rattle.pst_token.proofs.Runs.{take_while-run}
use Rattle.pst_token.proofs.Closed.{closed_reaches, closed_found}
use Rattle.pst_token.proofs.Found.{spelled_as, reads_back}
use Rattle.pst_token.proofs.ReadBack.{kind_of-spelling_of}
use Rattle.pst_token.proofs.Shapes.{spelling_shape}
use Rattle.pst_token.proofs.LexemeLemmas.{is_run, word_run, number_numeric, lexeme_shape}

-- a text that begins with a letter, a digit or `_`
pub next-word : (b : ℕ) (bytes : List ℕ) → is_word_byte b ≡ true → next (b ∷ bytes) ≡ word_part (take_while is_word_byte (b ∷ bytes))
unfolding next
next-word b bytes word = cond-false (is_blank b) _ _ (word_byte_no_blank b word) ∙ cond-true (is_word_byte b) _ _ word

-- the run that a text begins with decides
pub next-run : (run rest : List ℕ) → is_run run ≡ true → GoesOnWith (λ b. not (is_word_byte b)) rest → next (run ++ rest) ≡ word_part run
next-run [] rest h ends = cc
next-run (b ∷ run) rest h ends =
    next-word b (run ++ rest) (and_parts (is_word_byte b) (list_all is_word_byte run) h).0
    ∙ ap word_part (take_while-run is_word_byte (b ∷ run) rest h ends)

-- a word is a lexeme, of a kind of its own or a name
pub record IsWordOf (word : List ℕ) (l : Lexeme) : Type 0 where
  pub is_lexeme : IsLexeme l
  pub spells : spelled l ≡ word
  pub found : word_part word ≡ Some (lexeme l)

pub word_lexeme : (word : List ℕ) → is_word word ≡ true → (l : Lexeme) × IsWordOf word l
unfolding word_part
word_lexeme [] h = cc
word_lexeme (b ∷ bytes) h = by_kind (kind_of (b ∷ bytes)) refl
  where
    no_digit : is_ascii_digit b ≡ false
    no_digit = name_start_no_digit b (and_parts (is_name_start b) _ h).0

    by_kind : (o : Option Kind) → kind_of (b ∷ bytes) ≡ o → (l : Lexeme) × IsWordOf (b ∷ bytes) l
    by_kind (Some k) found =
        let spelled_so = spelled_as (b ∷ bytes) k found in
        (fixed k, record { is_lexeme = spelled_so.1; spells = spelled_so.0; found = rw (no_digit, found) refl })
    by_kind None none = (
      name (b ∷ bytes),
      record {
        is_lexeme = record { word = h; free = λ k same. let back : kind_of (b ∷ bytes) ≡ Some k = reads_back (b ∷ bytes) k (λ nothing. cc) same in cc };
        spells = refl;
        found = rw (no_digit, none) refl;
      },
    )

all_push : (run : List ℕ) (b : ℕ) → list_all is_word_byte run ≡ true → is_word_byte b ≡ true → list_all is_word_byte (run ++ b ∷ []) ≡ true
all_push [] b h word = and_from (is_word_byte b) true word refl
all_push (a ∷ run) b h word =
    let parts = and_parts (is_word_byte a) (list_all is_word_byte run) h in
    and_from (is_word_byte a) _ parts.0 (all_push run b parts.1 word)

-- a longer word would be a longer lexeme
pub word_ends : (word rest : List ℕ) → is_word word ≡ true → IsLongest word rest → GoesOnWith (λ b. not (is_word_byte b)) rest
word_ends word [] h longest = tt
word_ends word (b ∷ rest) h longest = by_test (is_word_byte b) refl
  where
    longer : (w : List ℕ) → is_word w ≡ true → is_word_byte b ≡ true → is_word (w ++ b ∷ []) ≡ true
    longer [] w_word b_word = cc
    longer (a ∷ w) w_word b_word =
        let parts = and_parts (is_name_start a) (list_all is_word_byte w) w_word in
        and_from (is_name_start a) _ parts.0 (all_push w b parts.1 b_word)

    by_test : (t : Bool) → is_word_byte b ≡ t → not (is_word_byte b) ≡ true
    by_test false no_word = ap not no_word
    by_test true is_one =
        let (l, found) = word_lexeme (word ++ b ∷ []) (longer word h is_one) in
        let none = longest l (b ∷ []) rest found.is_lexeme found.spells refl in
        cc

-- a kind that is spelled as a word
fixed_word_found : (k : Kind) (rest : List ℕ) → is_word (spelling_of k) ≡ true → spelling_of k ≢ [] → IsLongest (spelling_of k) rest → next (spelling_of k ++ rest) ≡ Some (lexeme (fixed k))
unfolding word_part
fixed_word_found k rest word some longest =
    next-run (spelling_of k) rest (word_run (spelling_of k) word) (word_ends (spelling_of k) rest word longest)
    ∙ by_first (spelling_of k) word (kind_of-spelling_of k some)
  where
    by_first : (bytes : List ℕ) → is_word bytes ≡ true → kind_of bytes ≡ Some k → word_part bytes ≡ Some (lexeme (fixed k))
    by_first [] w found = cc
    by_first (b ∷ bytes) w found = rw (name_start_no_digit b (and_parts (is_name_start b) _ w).0, found) refl

both_false : (s t : Bool) → (s || t) ≡ false → (s ≡ false) × (t ≡ false)
both_false true t h = cc
both_false false t h = (refl, h)

-- a text that begins with a mark
pub next-mark : (b : ℕ) (bytes : List ℕ) → is_mark_byte b ≡ true → begins_comment (b ∷ bytes) ≡ false → next (b ∷ bytes) ≡ mark_part (b ∷ bytes)
unfolding next
next-mark b bytes mark no_comment =
    let classes = and_parts (not (is_word_byte b)) (not (is_blank b)) mark in
    let comments = both_false (starts_with nat_eq (b ∷ bytes) (codes "//")) (starts_with nat_eq (b ∷ bytes) (codes "/*")) no_comment in
    cond-false (is_blank b) _ _ (not-true (is_blank b) classes.1)
    ∙ cond-false (is_word_byte b) _ _ (not-true (is_word_byte b) classes.0)
    ∙ cond-false (starts_with nat_eq (b ∷ bytes) (codes "//")) _ _ comments.0
    ∙ cond-false (starts_with nat_eq (b ∷ bytes) (codes "/*")) _ _ comments.1

-- a kind that is spelled as a mark
mark_found : (k : Kind) (bytes rest : List ℕ) → spelling_of k ≡ bytes → is_mark bytes ≡ true → IsLongest bytes rest
    → begins_comment (bytes ++ rest) ≡ false → next (bytes ++ rest) ≡ Some (lexeme (fixed k))
unfolding mark_part
mark_found k [] rest same mark longest no_comment = cc
mark_found k (b ∷ []) [] same mark longest no_comment =
    let back : kind_of (b ∷ []) ≡ Some k = reads_back (b ∷ []) k (λ nothing. cc) same in
    next-mark b [] mark no_comment ∙ rw back refl
mark_found k (b ∷ []) (c ∷ rest) same mark longest no_comment =
    next-mark b (c ∷ rest) mark no_comment ∙ by_two (kind_of (b ∷ c ∷ [])) refl
  where
    back : kind_of (b ∷ []) ≡ Some k
    back = reads_back (b ∷ []) k (λ nothing. cc) same

    by_two : (o : Option Kind) → kind_of (b ∷ c ∷ []) ≡ o → mark_part (b ∷ c ∷ rest) ≡ Some (lexeme (fixed k))
    by_two (Some other) found =
        let spelled_so = spelled_as (b ∷ c ∷ []) other found in
        let none = longest (fixed other) (c ∷ []) rest spelled_so.1 spelled_so.0 refl in
        cc
    by_two None none = rw (none, back) refl
mark_found k (b ∷ c ∷ []) rest same mark longest no_comment =
    let back : kind_of (b ∷ c ∷ []) ≡ Some k = reads_back (b ∷ c ∷ []) k (λ nothing. cc) same in
    next-mark b (c ∷ rest) mark no_comment ∙ rw back refl
mark_found k (b ∷ c ∷ d ∷ bytes) rest same mark longest no_comment = cc

lexeme_found : (l : Lexeme) (rest : List ℕ) → IsWhole l rest → next (spelled l ++ rest) ≡ Some (lexeme l)
unfolding word_part
lexeme_found (fixed k) rest h =
    by_shape (or_cases (is_nothing (spelling_of k) || is_word (spelling_of k)) (is_mark (spelling_of k)) (spelling_shape k))
  where
    not_nothing : (bytes : List ℕ) → is_nothing bytes ≡ true → bytes ≡ []
    not_nothing [] n = refl
    not_nothing (b ∷ bytes) n = cc

    by_shape : ((is_nothing (spelling_of k) || is_word (spelling_of k)) ≡ true) ⊎ (is_mark (spelling_of k) ≡ true) → next (spelling_of k ++ rest) ≡ Some (lexeme (fixed k))
    by_shape (inr mark) = mark_found k (spelling_of k) rest refl mark h.longest h.no_comment
    by_shape (inl first) =
        elim (or_cases (is_nothing (spelling_of k)) (is_word (spelling_of k)) first) [
          | inl nothing ↦ absurd (h.spells (not_nothing (spelling_of k) nothing))
          | inr word ↦ fixed_word_found k rest word h.spells h.longest
        ]
lexeme_found (name bytes) rest h =
    next-run bytes rest (word_run bytes h.spells.word) (word_ends bytes rest h.spells.word h.longest)
    ∙ by_first bytes h.spells.word (no_kind (kind_of bytes) refl)
  where
    no_kind : (o : Option Kind) → kind_of bytes ≡ o → kind_of bytes ≡ None
    no_kind (Some k) found = absurd (h.spells.free k (spelled_as bytes k found).0)
    no_kind None none = none

    by_first : (word : List ℕ) → is_word word ≡ true → kind_of word ≡ None → word_part word ≡ Some (lexeme (name word))
    by_first [] w none = cc
    by_first (b ∷ word) w none = rw (name_start_no_digit b (and_parts (is_name_start b) _ w).0, none) refl
lexeme_found (number bytes value) rest h =
    let numeric = number_numeric bytes value h.spells in
    next-run bytes rest numeric.run h.ends ∙ rw (numeric.digit, h.spells) refl

line_feed_ends : (rest : List ℕ) → GoesOnWith is_line_feed rest → GoesOnWith (λ b. not (not (is_line_feed b))) rest
line_feed_ends [] h = tt
line_feed_ends (b ∷ rest) h = ap (λ t. not (not t)) h

line_found : (bytes rest : List ℕ) → IsLineComment bytes rest → next (bytes ++ rest) ≡ Some (comment bytes)
unfolding next line_part
line_found bytes rest (text, made, no_feed, ends) =
    rw made (spelled_out text no_feed)
  where
    spelled_out : (t : List ℕ) → list_all (λ b. not (is_line_feed b)) t ≡ true → next ((codes "//" ++ t) ++ rest) ≡ Some (comment (codes "//" ++ t))
    spelled_out t h = ap (λ bs. Some (comment bs)) (take_while-run (λ b. not (is_line_feed b)) (codes "//" ++ t) rest h (line_feed_ends rest ends))

block_found : (bytes rest : List ℕ) → IsBlockComment bytes → next (bytes ++ rest) ≡ Some (comment bytes)
unfolding next block_part
block_found bytes rest h = rw made (found_at (closed_reaches text rest))
  where
    text : List ℕ
    text = h.closed.0

    made : bytes ≡ codes "/*" ++ text ++ codes "*/"
    made = h.closed.1

    -- the first `*/` ends the comment
    reaches_all : (n : ℕ) → closed_len ((text ++ codes "*/") ++ rest) ≡ Some n → n ≤ length text + 2 → 2 + n ≡ length (codes "/*" ++ text ++ codes "*/")
    reaches_all n found least =
        let (inner, after, split, long) = closed_found ((text ++ codes "*/") ++ rest) n found in
        let whole : (codes "/*" ++ inner ++ codes "*/") ++ after ≡ (codes "/*" ++ text ++ codes "*/") ++ rest = ap (λ (bs : List ℕ). 47 ∷ 42 ∷ bs) (sym split) in
        let inner_length = length-append inner (codes "*/") in
        let text_length = length-append text (codes "*/") in
        let (more, longer, _) = front_within (codes "/*" ++ inner ++ codes "*/") after (codes "/*" ++ text ++ codes "*/") rest whole (omega arith) in
        let none : more ≡ [] = h.first (codes "/*" ++ inner ++ codes "*/") more (made ∙ longer) (inner, refl) in
        let lengths = ap length longer ∙ length-append (codes "/*" ++ inner ++ codes "*/") more ∙ ap (λ (m : List ℕ). length (codes "/*" ++ inner ++ codes "*/") + length m) none in
        omega arith

    found_at : ((n : ℕ) × (closed_len ((text ++ codes "*/") ++ rest) ≡ Some n) × (n ≤ length text + 2))
        → next ((codes "/*" ++ text ++ codes "*/") ++ rest) ≡ Some (comment (codes "/*" ++ text ++ codes "*/"))
    found_at (n, found, least) =
        ap (option_map (λ m. comment (take (2 + m) ((codes "/*" ++ text ++ codes "*/") ++ rest)))) found
        ∙ ap (λ m. Some (comment (take m ((codes "/*" ++ text ++ codes "*/") ++ rest)))) (reaches_all n found least)
        ∙ ap (λ bs. Some (comment bs)) (take-append_seam (codes "/*" ++ text ++ codes "*/") rest)

-- the one part that may stand
pub next_finds : (part : Part) (rest : List ℕ) → MayStand part rest → next (bytes_of part ++ rest) ≡ Some part
unfolding next
next_finds (blank b) rest h = cond-true (is_blank b) _ _ h
next_finds (comment bytes) rest (inl line) = line_found bytes rest line
next_finds (comment bytes) rest (inr block) = block_found bytes rest block
next_finds (lexeme l) rest h = lexeme_found l rest h
