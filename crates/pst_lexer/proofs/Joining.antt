-- More of a text, the end of a text, and the tokens so far.
use Rattle.std.proofs.Common.{◌≡◌, ℕ, ◌+◌, ◌<◌, ◌≤◌, ◌⊎◌, inl, inr, Bool, true, false, List, [], ◌∷◌, ◌++◌, length, take, drop, pos, refl, ap, sym, subst, ◌∙◌, arith, append_assoc, append-nil, length-append, length-drop}
use Rattle.std.proofs.lemmas.List.{take-append-le, drop-append-le, nil_from_length}
use Rattle.pst_base.specs.declared.position.Place.{Place}
use Rattle.pst_token.specs.declared.kind.Kind.TheVariants as kind
use Rattle.pst_token.specs.declared.token.Token.{Token}
use Rattle.pst_token.specs.Parts.{Part, text_of, BeginsWith}
use Rattle.pst_token.specs.Tokens.{place_after, lexemes_after, lexemes_of, AreTokensOf, token_of, complete, IsReading, AreTokens}
use Rattle.pst_token.proofs.TokenLists.{lexemes_after-append, length-tokens}
use Rattle.pst_token.proofs.Readings.{fronts_agree, GoesOn}
use Rattle.pst_lexer.specs.Finding.{MayFollow, is_open}
use Rattle.pst_lexer.specs.Lexing.{AreSoFar}
use Rattle.pst_lexer.specs.declared.fault.LexFault.{LexFault}
use Rattle.pst_lexer.specs.declared.scan.Scanner.{Scanner}
use Rattle.pst_lexer.specs.Fault.{HasFault}
use Rattle.pst_lexer.specs.Scanning.{IsSettled, IsScanning, Keeps, IsCertain}

-- more bytes of a text that isn't at its end
pub settled_more : (names : List (List ℕ)) (file room : ℕ) (text piece : List ℕ) (tokens : List Token) (start : ℕ) (place : Place)
    → IsSettled false names file room text tokens start place → IsSettled false names file room (text ++ piece) tokens start place
settled_more names file room text piece tokens start place h = record {
  parts = h.parts;
  front = λ more may.
      subst (λ t. BeginsWith t h.parts (drop start (text ++ piece) ++ more)) (sym (append_assoc text piece more))
      (subst (BeginsWith (text ++ (piece ++ more)) h.parts) (sym (append_assoc (drop start text) piece more) ∙ ap (λ t. t ++ more) (sym (drop-append-le start text piece h.within))) (h.front (piece ++ more) tt));
  reach = h.reach;
  within = let before = h.within in omega (arith, length-append text piece);
  at = h.at;
  each = h.each;
  few = h.few;
}

pub open_more : (text piece : List ℕ) (start seen : ℕ) → start ≤ length text → seen ≤ length (drop start text) → is_open (take seen (drop start text)) ≡ true → is_open (take seen (drop start (text ++ piece))) ≡ true
open_more text piece start seen within seen_within h =
    ap (λ t. is_open (take seen t)) (drop-append-le start text piece within) ∙ ap is_open (take-append-le seen (drop start text) piece seen_within) ∙ h

-- what holds whatever follows holds at the end
pub settled_last : (names : List (List ℕ)) (file room : ℕ) (text : List ℕ) (tokens : List Token) (start : ℕ) (place : Place)
    → IsSettled false names file room text tokens start place → IsSettled true names file room text tokens start place
settled_last names file room text tokens start place h = record {
  parts = h.parts;
  front = λ more may. h.front more tt;
  reach = h.reach;
  within = h.within;
  at = h.at;
  each = h.each;
  few = h.few;
}

-- the tokens so far
pub are_so_far : (names : List (List ℕ)) (file room : ℕ) (text : List ℕ) (tokens : List Token) (start : ℕ) (place : Place)
    → IsSettled false names file room text tokens start place → AreSoFar file names text tokens
are_so_far names file room text tokens start place h = record { parts = h.parts; rest = drop start text; front = λ more. h.front more tt; each = h.each }

-- two fronts of a text with as many lexemes have the same ones
same_lexemes : (file : ℕ) (text : List ℕ) (ps qs : List Part) (r s : List ℕ) → BeginsWith text ps r → BeginsWith text qs s
    → length (lexemes_of file ps) ≡ length (lexemes_of file qs) → lexemes_of file ps ≡ lexemes_of file qs
same_lexemes file text ps qs r s p_front q_front equal =
    elim (fronts_agree text ps qs r s p_front q_front) [
      | inl on ↦ sym (longer ps qs on.more on.longer equal)
      | inr on ↦ longer qs ps on.more on.longer (sym equal)
    ]
  where
    longer : (short long more : List Part) → long ≡ short ++ more → length (lexemes_of file short) ≡ length (lexemes_of file long) → lexemes_of file long ≡ lexemes_of file short
    longer short long more is as_many =
        let split : lexemes_of file long ≡ lexemes_of file short ++ lexemes_after file (text_of short) more = ap (lexemes_of file) is ∙ lexemes_after-append file [] short more in
        let none : lexemes_after file (text_of short) more ≡ [] = nil_from_length (lexemes_after file (text_of short) more) (let lengths = ap length split in omega (arith, length-append (lexemes_of file short) (lexemes_after file (text_of short) more))) in
        split ∙ ap (λ ls. lexemes_of file short ++ ls) none ∙ append-nil (lexemes_of file short)

-- the tokens have their texts in this table too
pub settled_names : (others names : List (List ℕ)) (file room : ℕ) (text : List ℕ) (tokens : List Token) (start : ℕ) (place : Place)
    → IsSettled false others file room text tokens start place → AreSoFar file names text tokens → IsSettled false names file room text tokens start place
settled_names others names file room text tokens start place h so_far = record {
  parts = h.parts;
  front = h.front;
  reach = h.reach;
  within = h.within;
  at = h.at;
  each =
      let as_many : length (lexemes_of file so_far.parts) ≡ length (lexemes_of file h.parts) =
      sym (length-tokens names (lexemes_of file so_far.parts) tokens so_far.each) ∙ length-tokens others (lexemes_of file h.parts) tokens h.each in
      subst (λ ls. AreTokensOf names ls tokens) (same_lexemes file (text ++ []) so_far.parts h.parts (so_far.rest ++ []) (drop start text ++ []) (so_far.front []) (h.front [] tt) as_many) so_far.each;
  few = h.few;
}

-- the tokens of the whole text
pub whole_tokens : (names : List (List ℕ)) (file room : ℕ) (text : List ℕ) (tokens : List Token) (start : ℕ) (place : Place)
    → IsSettled true names file room text tokens start place → start ≡ length text → AreTokens file names text (tokens ++ token_of kind.End 0 (pos 0) place ∷ [])
whole_tokens names file room text tokens start place h all =
    let nothing : drop start text ≡ [] = nil_from_length (drop start text) (omega (arith, length-drop start text)) in
    let front : BeginsWith text h.parts [] =
    subst (λ t. BeginsWith t h.parts []) (append-nil text) (subst (BeginsWith (text ++ []) h.parts) (append-nil (drop start text) ∙ nothing) (h.front [] refl)) in
    let whole : text_of h.parts ≡ text = sym (append-nil (text_of h.parts)) ∙ sym front.made in
    record {
      parts = h.parts;
      reading = record { front = front; ends = refl };
      before_end = tokens;
      each = h.each;
      all = ap (λ p. tokens ++ token_of kind.End 0 (pos 0) p ∷ []) (h.at ∙ ap (place_after file) whole);
    }

-- a fault that is certain at the end is that of the text
pub certain_last : (old new : Scanner) (f : LexFault) → Keeps old new → IsCertain true new f → HasFault old.file old.room old.taken.items f
certain_last old new f kept h =
    subst (λ text. HasFault old.file old.room text f) (append-nil old.taken.items)
    (subst (λ text. HasFault old.file old.room (text ++ []) f) (ap (λ v. v.items) kept.taken)
    (subst (λ room. HasFault old.file room (new.taken.items ++ []) f) kept.room
    (subst (λ file. HasFault file new.room (new.taken.items ++ []) f) kept.file (h [] refl))))

-- the tokens of a scanner that has come to the end
pub finished : (names : List (List ℕ)) (old new : Scanner) (all : List Token) → Keeps old new → IsScanning true names new → new.start ≡ length new.taken.items
    → all ≡ new.tokens.items ++ token_of kind.End 0 (pos 0) new.place ∷ [] → AreTokens old.file names old.taken.items all × (length all ≤ old.room + 1)
finished names old new all kept h last is = (
  subst (λ file. AreTokens file names old.taken.items all) kept.file
      (subst (λ text. AreTokens new.file names text all) (ap (λ v. v.items) kept.taken)
      (subst (AreTokens new.file names new.taken.items) (sym is) (whole_tokens names new.file new.room new.taken.items new.tokens.items new.start new.place h.settled last))),
  let lengths = ap length is in
      let room = kept.room in
      let few = h.settled.few in
      omega (arith, length-append new.tokens.items (token_of kind.End 0 (pos 0) new.place ∷ [])),
)
