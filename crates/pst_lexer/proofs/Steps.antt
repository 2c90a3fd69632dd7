-- What a step of the scanner leaves.
use Rattle.std.proofs.Common.{◌≡◌, ◌≢◌, ℕ, ◌+◌, ◌^◌, ◌<◌, ◌≤◌, ◌⊎◌, inl, inr, Bool, true, false, ◌&&◌, List, [], ◌∷◌, ◌++◌, length, take, drop, Option, Some, None, Result, Ok, Err, IfErr, OnOk, OnErr, ℤ, pos, refl, ap, sym, subst, ◌∙◌, arith, length-append, append_assoc, append-nil}
use Rattle.std.specs.Prelude.{slice_get}
use Rattle.std.specs.List.{list_all}
use Rattle.std.proofs.Common.{to_z, of_z, w64}
use Rattle.std.proofs.lemmas.Int.{to_z_pos}
use Rattle.pst_base.specs.declared.position.Place.{Place}
use Rattle.pst_token.specs.declared.kind.Kind.{Kind}
use Rattle.pst_token.specs.declared.kind.Kind.TheVariants as kind
use Rattle.pst_token.specs.declared.token.Token.{Token}
use Rattle.pst_token.specs.Spelling.{spelling_of}
use Rattle.pst_token.specs.Lexemes.{Lexeme, fixed, name, number, is_word_byte, is_word}
use Rattle.pst_token.specs.Parts.{Part, blank, comment, lexeme, IsNarrow}
use Rattle.pst_token.specs.Tokens.{IsTokenOf, AreTokensOf, lexemes_of, token_of}
use Rattle.pst_token.proofs.NextStands.{next_fits}
use Rattle.pst_token.proofs.LexemeLemmas.{is_run, word_run}
use Rattle.pst_token.proofs.TokenLists.{tokens-longer}
use Rattle.pst_lexer.specs.declared.fault.LexFault.{LexFault}
use Rattle.pst_lexer.specs.declared.fault.LexFault.TheVariants as fault
use Rattle.pst_lexer.specs.declared.scan.Scanner.{Scanner}
use Rattle.pst_lexer.specs.Fault.{HasFault}
use Rattle.pst_lexer.specs.Lexing.{OnlyAdds}
use Rattle.pst_lexer.specs.Finding.{MayFollow, Begins, IsGap, is_open}
use Rattle.pst_lexer.specs.Scanning.{rest_of, IsSettled, IsScanning, IsSmall, Keeps, Stays, Passes, Adds, IsRefused, HasName, IsCertain}
use Rattle.pst_lexer.proofs.Settling.{settle, gap_tokens, lexeme_tokens, many_here, column_within}

-- the same text
kept_settled : (is_last : Bool) (names : List (List ℕ)) (old new : Scanner) (tokens : List Token) (start : ℕ) (place : Place) → Keeps old new
    → IsSettled is_last names old.file old.room old.taken.items tokens start place → IsSettled is_last names new.file new.room new.taken.items tokens start place
kept_settled is_last names old new tokens start place kept h =
    subst (λ file. IsSettled is_last names file new.room new.taken.items tokens start place) (sym kept.file)
    (subst (λ room. IsSettled is_last names old.file room new.taken.items tokens start place) (sym kept.room)
    (subst (λ text. IsSettled is_last names old.file old.room text tokens start place) (ap (λ v. v.items) (sym kept.taken)) h))

pub kept_certain : (is_last : Bool) (old new : Scanner) (f : LexFault) → Keeps old new → IsCertain is_last old f → IsCertain is_last new f
kept_certain is_last old new f kept h more may =
    subst (λ file. HasFault file new.room (new.taken.items ++ more) f) (sym kept.file)
    (subst (λ room. HasFault old.file room (new.taken.items ++ more) f) (sym kept.room)
    (subst (λ text. HasFault old.file old.room (text ++ more) f) (ap (λ v. v.items) (sym kept.taken)) (h more may)))

-- nothing of the next part has been looked at
unseen : (s : Scanner) → s.seen ≡ 0 → is_open (take s.seen (rest_of s)) ≡ true
unseen s none = subst (λ n. is_open (take n (rest_of s)) ≡ true) (sym none) refl

pub gap_scans : (is_last : Bool) (names : List (List ℕ)) (old new : Scanner) (len : ℕ) → IsScanning is_last names old
    → (part : Part) × IsGap part × Begins (rest_of old) is_last len part → Passes old new len old.tokens.items → IsScanning is_last names new
gap_scans is_last names old new len h (part, gap, begins) passed =
    let none = passed.seen in
    record {
      settled = subst (λ tokens. IsSettled is_last names new.file new.room new.taken.items tokens new.start new.place) (sym passed.tokens)
          (kept_settled is_last names old new old.tokens.items new.start new.place passed.kept
          (settle h.settled names old.tokens.items new.start len new.place part begins (narrow part gap) passed.start passed.place (gap_tokens h.settled part gap) h.settled.few));
      seen = omega arith;
      open_so = unseen new passed.seen;
    }
  where
    narrow : (p : Part) → IsGap p → IsNarrow p
    narrow (blank b) g = tt
    narrow (comment bytes) g = tt
    narrow (lexeme l) g = absurd g

-- the names of the tokens are still there
added_names : (names others : List (List ℕ)) (is_last : Bool) (file room : ℕ) (text : List ℕ) (tokens : List Token) (start : ℕ) (place : Place) → OnlyAdds names others
    → (h : IsSettled is_last names file room text tokens start place) → AreTokensOf others (lexemes_of file h.parts) tokens
added_names names others is_last file room text tokens start place (more, longer) h =
    subst (λ table. AreTokensOf table (lexemes_of file h.parts) tokens) (sym longer) (tokens-longer names more (lexemes_of file h.parts) tokens h.each)

pub token_scans : (is_last : Bool) (names others : List (List ℕ)) (old new : Scanner) (len : ℕ) (l : Lexeme) (k : Kind) (id : ℕ) (value : ℤ) → IsScanning is_last names old
    → Begins (rest_of old) is_last len (lexeme l) → IsNarrow (lexeme l) → IsTokenOf others l old.place (token_of k id value old.place) → OnlyAdds names others
    → Adds old new len k id value → IsScanning is_last others new
token_scans is_last names others old new len l k id value h begins narrow is_token adds added =
    let none = added.passed.seen in
    let all : List Token = old.tokens.items ++ token_of k id value old.place ∷ [] in
    let room = added.room in
    record {
      settled = subst (λ tokens. IsSettled is_last others new.file new.room new.taken.items tokens new.start new.place) (sym added.passed.tokens)
          (kept_settled is_last others old new all new.start new.place added.passed.kept
          (settle h.settled others all new.start len new.place (lexeme l) begins narrow added.passed.start added.passed.place
          (lexeme_tokens h.settled others l (token_of k id value old.place) is_token (added_names names others is_last old.file old.room old.taken.items old.tokens.items old.start old.place adds h.settled))
          (omega (arith, length-append old.tokens.items (token_of k id value old.place ∷ [])))));
      seen = omega arith;
      open_so = unseen new added.passed.seen;
    }

pub stays_scans : (is_last : Bool) (names others : List (List ℕ)) (old new : Scanner) → IsScanning is_last names old → OnlyAdds names others → Stays old new → IsScanning is_last others new
stays_scans is_last names others old new h adds stays =
    let same_rest : rest_of new ≡ rest_of old = λ i. drop (stays.start i) ((stays.kept.taken i).items) in
    record {
      settled =
          subst (λ tokens. IsSettled is_last others new.file new.room new.taken.items tokens new.start new.place) (sym stays.tokens)
          (subst (λ start. IsSettled is_last others new.file new.room new.taken.items old.tokens.items start new.place) (sym stays.start)
          (subst (λ place. IsSettled is_last others new.file new.room new.taken.items old.tokens.items old.start place) (sym stays.place)
          (kept_settled is_last others old new old.tokens.items old.start old.place stays.kept (record {
            parts = h.settled.parts;
            front = h.settled.front;
            reach = h.settled.reach;
            within = h.settled.within;
            at = h.settled.at;
            each = added_names names others is_last old.file old.room old.taken.items old.tokens.items old.start old.place adds h.settled;
            few = h.settled.few;
          }))));
      seen = let lengths = ap length same_rest in let same = stays.seen in let before = h.seen in omega arith;
      open_so = ap is_open (λ i. take (stays.seen i) (same_rest i)) ∙ h.open_so;
    }

-- a token was added or refused
pub add_scans : (is_last : Bool) (names : List (List ℕ)) (old new : Scanner) (len : ℕ) (l : Lexeme) (k : Kind) (id : ℕ) (value : ℤ) (r : Result Bool LexFault) → IsScanning is_last names old
    → Begins (rest_of old) is_last len (lexeme l) → IsNarrow (lexeme l) → IsTokenOf names l old.place (token_of k id value old.place)
    → OnOk r ((r ≡ Ok true) × Adds old new len k id value) → OnErr r (Stays old new) → IsScanning is_last names new
add_scans is_last names old new len l k id value (Ok b) h begins narrow is_token ok err =
    token_scans is_last names names old new len l k id value h begins narrow is_token ([], sym (append-nil names)) ok.1
add_scans is_last names old new len l k id value (Err f) h begins narrow is_token ok err = stays_scans is_last names names old new h ([], sym (append-nil names)) err

pub name_scans : (is_last : Bool) (names others : List (List ℕ)) (old new : Scanner) (len : ℕ) (r : Result Bool LexFault) → IsScanning is_last names old
    → Begins (rest_of old) is_last len (lexeme (name (take len (rest_of old)))) → OnlyAdds names others
    → OnOk r ((r ≡ Ok true) × HasName others (take len (rest_of old)) (λ id. Adds old new len kind.Name id (pos 0))) → OnErr r (Stays old new) → IsScanning is_last others new
name_scans is_last names others old new len (Ok b) h begins adds (_, (id, there, added)) err =
    token_scans is_last names others old new len (name (take len (rest_of old))) kind.Name id (pos 0) h begins tt (id, there, refl) adds added
name_scans is_last names others old new len (Err f) h begins adds ok err = stays_scans is_last names others old new h adds err

-- a refusal is certain
pub refused_certain : (is_last : Bool) (names : List (List ℕ)) (old new : Scanner) (len : ℕ) (l : Lexeme) (r : Result Bool LexFault) → IsScanning is_last names old
    → Begins (rest_of old) is_last len (lexeme l) → IsNarrow (lexeme l) → OnErr r (Stays old new) → IfErr r (IsRefused old) → IfErr r (λ f. f ≢ fault.NoMemory → IsCertain is_last new f)
refused_certain is_last names old new len l (Ok b) h begins narrow err refused = tt
refused_certain is_last names old new len l (Err f) h begins narrow err refused = λ other. by_reason refused other
  where
    by_reason : IsRefused old f → f ≢ fault.NoMemory → IsCertain is_last new f
    by_reason (inl memory) other = absurd (other memory)
    by_reason (inr (many, full)) other =
        kept_certain is_last old new f err.kept (λ more may. subst (HasFault old.file old.room (old.taken.items ++ more)) (sym many) (many_here h.settled len l begins narrow full more may))

pub column_fits : (is_last : Bool) (names : List (List ℕ)) (s : Scanner) (len : ℕ) → IsScanning is_last names s → IsSmall s → len ≤ length (rest_of s) → s.place.column + len < 2 ^ 32
column_fits is_last names s len h small within = omega (arith, column_within h.settled len within, small.taken)

-- a name has letters, digits and `_` alone
pub name_bytes : (text : List ℕ) (is_last : Bool) (len : ℕ) → Begins text is_last len (lexeme (name (take len text))) → list_all is_word_byte (take len text) ≡ true
name_bytes text is_last len begins =
    let fits = next_fits (text ++ []) (lexeme (name (take len text))) (begins.found [] (nothing is_last)) in
    run_all (take len text) (word_run (take len text) fits.stands.spells.word)
  where
    nothing : (b : Bool) → MayFollow b []
    nothing true = refl
    nothing false = tt

    run_all : (run : List ℕ) → is_run run ≡ true → list_all is_word_byte run ≡ true
    run_all [] h = refl
    run_all (b ∷ run) h = h

-- a reserved word or a mark is no name
pub fixed_is_no_name : (text : List ℕ) (is_last : Bool) (len : ℕ) (k : Kind) → Begins text is_last len (lexeme (fixed k)) → k ≢ kind.Name
fixed_is_no_name text is_last len k begins same =
    let fits = next_fits (text ++ []) (lexeme (fixed k)) (begins.found [] (nothing is_last)) in
    fits.stands.spells (ap spelling_of same)
  where
    nothing : (b : Bool) → MayFollow b []
    nothing true = refl
    nothing false = tt

-- a value that fits reads back as it is
pub number_value : (value : ℤ) (n : ℕ) → value ≡ pos n → n < 2 ^ 63 → to_z w64 (of_z w64 value) ≡ pos n
number_value value n same below = ap (λ v. to_z w64 (of_z w64 v)) same ∙ to_z_pos w64 n below
