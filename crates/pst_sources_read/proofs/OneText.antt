-- One text, fed to a lexer in one piece.
use Rattle.std.proofs.Common.{◌≡◌, ◌≢◌, ◌∙◌, ℕ, ◌+◌, ◌≤◌, List, [], ◌∷◌, ◌++◌, length, refl, ap, sym, subst, arith, append-nil, append_assoc}
use Rattle.pst_lexer.specs.declared.fault.LexFault.{LexFault}
use Rattle.std.specs.Prelude.{Result, Ok, Err, IfOk, None, Vec}
use Rattle.std.specs.declared.alloc.Global.{Global}
use Rattle.pst_lexer.specs.Fault.{HasFault, AlwaysHasFault}
use Rattle.pst_lexer.specs.Lexing.{Lexing, OnlyAdds}
use Rattle.pst_lexer.specs.Numbering.{AreNumbered, StayNumbered}
use Rattle.pst_token.specs.declared.token.Token.{Token}
use Rattle.pst_token.specs.Tokens.{AreTokens}
use Rattle.pst_sources_read.specs.TextsLexed.{IsTextLexed}

-- a fault that every text has that begins so is that of the text
pub fault_of : (file room : ℕ) (text : List ℕ) (f : LexFault) → AlwaysHasFault file room text f → HasFault file room text f
fault_of file room text f always = subst (λ bytes. HasFault file room bytes f) (append-nil text) (always [])

-- what is added twice is added
pub adds_more : (old middle new : List (List ℕ)) → OnlyAdds old middle → OnlyAdds middle new → OnlyAdds old new
adds_more old middle new a b = (a.0 ++ b.0, b.1 ∙ ap (λ (xs : List (List ℕ)). xs ++ b.0) a.1 ∙ append_assoc old a.0 b.0)

-- a lexer that was fed nothing yet
abbrev fresh : ℕ → ℕ → Lexing
fresh file room = record { file = file; room = room; taken = []; tokens = []; fault = None }

-- a fault at the one piece is that of the text
pub fed_fault : (file room : ℕ) (text : List ℕ) (f : LexFault) (lexing : Lexing) → lexing ≡ fresh file room → AlwaysHasFault lexing.file lexing.room (lexing.taken ++ text) f → HasFault file room text f
fed_fault file room text f lexing empty always = fault_of file room text f (subst (λ (l : Lexing). AlwaysHasFault l.file l.room (l.taken ++ text) f) empty always)

-- what was fed is the text
pub fed_text : (file room : ℕ) (text : List ℕ) (old fed : Lexing) → old ≡ fresh file room → fed.file ≡ old.file → fed.room ≡ old.room → fed.taken ≡ old.taken ++ text
    → (fed.file ≡ file) × (fed.room ≡ room) × (fed.taken ≡ text)
fed_text file room text old fed empty same_file same_room taken =
    (same_file ∙ ap (λ (l : Lexing). l.file) empty, same_room ∙ ap (λ (l : Lexing). l.room) empty, taken ∙ ap (λ (l : Lexing). l.taken ++ text) empty)

pub lexed_text : (file room : ℕ) (text : List ℕ) (old fed : Lexing) (first middle last : List (List ℕ)) (r : Result (Vec Token Global) LexFault)
    → old ≡ fresh file room → (fed.file ≡ file) × (fed.room ≡ room) × (fed.taken ≡ text)
    → OnlyAdds first middle → OnlyAdds middle last → StayNumbered old.tokens (length first) fed.tokens (length middle)
    → IfOk r (λ ts. AreTokens fed.file last fed.taken ts.items) → IfOk r (λ ts. length ts.items ≤ fed.room + 1) → IfOk r (λ ts. StayNumbered fed.tokens (length middle) ts.items (length last))
    → IfOk r (λ ts. IsTextLexed file room text first last ts.items)
lexed_text file room text old fed first middle last (Err e) empty are_fed one two stay are few stay_too = tt
lexed_text file room text old fed first middle last (Ok ts) empty are_fed one two stay are few stay_too =
    let begun : AreNumbered (length first) old.tokens (length first) = subst (λ (l : Lexing). AreNumbered (length first) l.tokens (length first)) (sym empty) refl in
    record {
      are = subst (λ t. AreTokens file last t ts.items) are_fed.2 (subst (λ n. AreTokens n last fed.taken ts.items) are_fed.0 are);
      few = subst (λ n. length ts.items ≤ n + 1) are_fed.1 few;
      grown = adds_more first middle last one two;
      numbered = stay_too (length first) (stay (length first) begun);
    }
