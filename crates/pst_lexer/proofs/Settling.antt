-- One part more is settled, or a fault is certain.
use Rattle.std.proofs.Common.{◌≡◌, ◌≢◌, ℕ, suc, zero, ◌+◌, ◌-◌, ◌^◌, ◌<◌, ◌≤◌, ◌⊎◌, inl, inr, Bool, true, false, not, List, [], ◌∷◌, ◌++◌, length, take, drop, Option, Some, None, refl, ap, sym, subst, ◌∙◌, arith, append_assoc, append-nil, length-append, length-drop, length-take-le, take-append-drop}
use Rattle.std.proofs.lemmas.List.{drop-drop, append_cancel_left}
use Rattle.std.proofs.lemmas.List.Sums.{count_by-le-length, suffix_len-le-length}
use Rattle.std.specs.List.{count_by, suffix_len}
use Rattle.pst_base.specs.declared.position.Place.{Place}
use Rattle.pst_token.specs.declared.token.Token.{Token}
use Rattle.pst_token.specs.Lexemes.{Lexeme, fixed, name, number, spelled}
use Rattle.pst_token.specs.Parts.{Part, blank, comment, lexeme, is_line_feed, bytes_of, text_of, MayStand, IsNarrow, Stand, BeginsWith}
use Rattle.pst_token.specs.Tokens.{place_after, lexemes_after, lexemes_of, IsTokenOf, AreTokensOf, BeginsNothing, Ending, bad, wide, EndsAs, IsReading}
use Rattle.pst_token.specs.Next.{next}
use Rattle.pst_token.proofs.Fits.{Fits}
use Rattle.pst_token.proofs.NextStands.{next_fits}
use Rattle.pst_token.proofs.Readings.{nothing_begins, some_bytes}
use Rattle.pst_token.proofs.TokenLists.{text_of-push, begins-push, lexemes_of-push, tokens-append}
use Rattle.pst_lexer.specs.Fault.{token_count, StopsAt, HasMany, HasFault}
use Rattle.pst_lexer.specs.Finding.{MayFollow, Begins, BeginsNone, IsGap}
use Rattle.pst_lexer.specs.Scanning.{IsSettled}
use Rattle.pst_lexer.proofs.Counts.{count-tokens, token_count-append}

-- the part stands before what is left of the text
stands_there : (text : List ℕ) (is_last : Bool) (len : ℕ) (part : Part) → Begins text is_last len part → (more : List ℕ) → MayFollow is_last more
    → MayStand part (drop len text ++ more)
stands_there text is_last len part begins more may =
    let fits = next_fits (text ++ more) part (begins.found more may) in
    let split : bytes_of part ++ fits.rest ≡ bytes_of part ++ (drop len text ++ more) =
    sym fits.split ∙ ap (λ bs. bs ++ more) (sym (take-append-drop len text)) ∙ append_assoc (take len text) (drop len text) more ∙ ap (λ bs. bs ++ (drop len text ++ more)) (sym begins.bytes) in
    subst (MayStand part) (append_cancel_left (bytes_of part) fits.rest (drop len text ++ more) split) fits.stands

module _ {is_last : Bool} {names : List (List ℕ)} {file room : ℕ} {text : List ℕ} {tokens : List Token} {start : ℕ} {place : Place} (settled : IsSettled is_last names file room text tokens start place) where
  -- one part more in front
  front_more : (len : ℕ) (part : Part) → Begins (drop start text) is_last len part → IsNarrow part → (more : List ℕ) → MayFollow is_last more
      → BeginsWith (text ++ more) (settled.parts ++ part ∷ []) (drop (start + len) text ++ more)
  front_more len part begins narrow more may =
      let front = settled.front more may in
      let split : drop start text ++ more ≡ bytes_of part ++ (drop (start + len) text ++ more) =
      ap (λ bs. bs ++ more) (sym (take-append-drop len (drop start text)))
      ∙ append_assoc (take len (drop start text)) (drop len (drop start text)) more
      ∙ ap (λ bs. bs ++ (drop len (drop start text) ++ more)) (sym begins.bytes)
      ∙ ap (λ bs. bytes_of part ++ (bs ++ more)) (drop-drop len start text) in
      begins-push (text ++ more) settled.parts part (drop (start + len) text ++ more)
      (subst (BeginsWith (text ++ more) settled.parts) split front)
      (subst (λ bs. MayStand part (bs ++ more)) (drop-drop len start text) (stands_there (drop start text) is_last len part begins more may))
      narrow

  -- the part is settled with these tokens
  pub settle : (others : List (List ℕ)) (all : List Token) (end len : ℕ) (next_place : Place) (part : Part) → Begins (drop start text) is_last len part → IsNarrow part
      → end ≡ start + len → ((before : List ℕ) → place ≡ place_after file before → next_place ≡ place_after file (before ++ take len (drop start text)))
      → AreTokensOf others (lexemes_of file (settled.parts ++ part ∷ [])) all → length all ≤ room → IsSettled is_last others file room text all end next_place
  settle others all end len next_place part begins narrow ends places each few =
      let lengths : length (text_of (settled.parts ++ part ∷ [])) ≡ length (text_of settled.parts) + length (bytes_of part) = ap length (text_of-push settled.parts part) ∙ length-append (text_of settled.parts) (bytes_of part) in
      let long : length (bytes_of part) ≡ len = ap length begins.bytes ∙ length-take-le len (drop start text) begins.within in
      let reach = settled.reach in
      let within = begins.within in
      let before = settled.within in
      record {
        parts = settled.parts ++ part ∷ [];
        front = λ more may. subst (λ n. BeginsWith (text ++ more) (settled.parts ++ part ∷ []) (drop n text ++ more)) (sym ends) (front_more len part begins narrow more may);
        reach = omega arith;
        within = omega (arith, length-drop start text);
        at = places (text_of settled.parts) settled.at ∙ ap (λ bs. place_after file (text_of settled.parts ++ bs)) (sym begins.bytes) ∙ ap (place_after file) (sym (text_of-push settled.parts part));
        each = each;
        few = few;
      }

  -- a gap gives no token
  pub gap_tokens : (part : Part) → IsGap part → AreTokensOf names (lexemes_of file (settled.parts ++ part ∷ [])) tokens
  gap_tokens part gap = subst (λ ls. AreTokensOf names ls tokens) (sym (lexemes_of-push file settled.parts part ∙ ap (λ ls. lexemes_of file settled.parts ++ ls) (no_lexemes part gap) ∙ append-nil (lexemes_of file settled.parts))) settled.each
    where
      no_lexemes : (p : Part) → IsGap p → lexemes_after file (text_of settled.parts) (p ∷ []) ≡ []
      no_lexemes (blank b) h = refl
      no_lexemes (comment bytes) h = refl
      no_lexemes (lexeme l) h = absurd h

  -- a lexeme gives its token
  pub lexeme_tokens : (others : List (List ℕ)) (l : Lexeme) (token : Token) → IsTokenOf others l place token → AreTokensOf others (lexemes_of file settled.parts) tokens
      → AreTokensOf others (lexemes_of file (settled.parts ++ lexeme l ∷ [])) (tokens ++ token ∷ [])
  lexeme_tokens others l token is each =
      subst (λ ls. AreTokensOf others ls (tokens ++ token ∷ [])) (sym (lexemes_of-push file settled.parts (lexeme l)))
      (tokens-append others (lexemes_of file settled.parts) ((l, place_after file (text_of settled.parts)) ∷ []) tokens (token ∷ []) each (subst (λ p. IsTokenOf others l p token) settled.at is, tt))

  -- the tokens of the parts fit the room
  few_parts : token_count settled.parts ≤ room
  few_parts = omega (arith, count-tokens names file settled.parts tokens settled.each, settled.few)

  -- no part begins
  pub bad_here : start < length text → BeginsNone (drop start text) is_last → (more : List ℕ) → MayFollow is_last more → StopsAt file room (text ++ more) bad place
  bad_here some none more may = record {
    parts = settled.parts;
    rest = drop start text ++ more;
    reading = record { front = settled.front more may; ends = (λ nothing. let lengths = ap length nothing in absurd (omega (arith, length-append (drop start text) more, length-drop start text)), nothing_begins (drop start text ++ more) (none more may)) };
    few = few_parts;
    at = settled.at;
  }

  -- a number is too wide
  pub wide_here : (len n : ℕ) → 2 ^ 63 ≤ n → Begins (drop start text) is_last len (lexeme (number (take len (drop start text)) n)) → (more : List ℕ) → MayFollow is_last more → StopsAt file room (text ++ more) wide place
  wide_here len n above begins more may = record {
    parts = settled.parts;
    rest = drop start text ++ more;
    reading = record {
      front = settled.front more may;
      ends = (
        take len (drop start text),
        n,
        drop len (drop start text) ++ more,
        ap (λ bs. bs ++ more) (sym (take-append-drop len (drop start text))) ∙ append_assoc (take len (drop start text)) (drop len (drop start text)) more,
        stands_there (drop start text) is_last len (lexeme (number (take len (drop start text)) n)) begins more may,
        above,
      );
    };
    few = few_parts;
    at = settled.at;
  }

  -- there is no room for a lexeme
  pub many_here : (len : ℕ) (l : Lexeme) → Begins (drop start text) is_last len (lexeme l) → IsNarrow (lexeme l) → room ≤ length tokens → (more : List ℕ) → MayFollow is_last more → HasMany room (text ++ more)
  many_here len l begins narrow full more may = record {
    parts = settled.parts ++ lexeme l ∷ [];
    rest = drop (start + len) text ++ more;
    front = front_more len (lexeme l) begins narrow more may;
    many = omega (arith, count-tokens names file settled.parts tokens settled.each, token_count-append settled.parts (lexeme l ∷ []));
  }

  -- lines and columns are at most the bytes before and one
  pub line_within : (len : ℕ) → len ≤ length (drop start text) → place.line + len ≤ length text + 1
  line_within len within =
      let line : place.line ≡ 1 + count_by is_line_feed (text_of settled.parts) = ap (λ (p : Place). p.line) settled.at in
      let reach = settled.reach in
      let before = settled.within in
      omega (arith, count_by-le-length is_line_feed (text_of settled.parts), length-drop start text)

  pub column_within : (len : ℕ) → len ≤ length (drop start text) → place.column + len ≤ length text + 1
  column_within len within =
      let column : place.column ≡ 1 + suffix_len (λ b. not (is_line_feed b)) (text_of settled.parts) = ap (λ (p : Place). p.column) settled.at in
      let reach = settled.reach in
      let before = settled.within in
      omega (arith, suffix_len-le-length (λ b. not (is_line_feed b)) (text_of settled.parts), length-drop start text)
