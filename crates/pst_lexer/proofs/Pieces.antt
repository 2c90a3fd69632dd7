-- What a lexer keeps from one piece to the next, and what it answers at the end.
use Rattle.std.proofs.Common.{◌≡◌, ◌≢◌, ℕ, ◌+◌, ◌^◌, ◌≤◌, ◌⊎◌, inl, inr, Bool, true, false, List, [], ◌∷◌, ◌++◌, length, Option, Some, None, Result, Ok, Err, IfOk, IfErr, refl, ap, sym, subst, ◌∙◌, arith, append-nil, length-append}
use Rattle.std.specs.Global.{Vec}
use Rattle.pst_token.specs.declared.token.Token.{Token}
use Rattle.pst_token.specs.Tokens.{AreTokens}
use Rattle.pst_lexer.specs.declared.fault.LexFault.{LexFault}
use Rattle.pst_lexer.specs.declared.fault.LexFault.TheVariants as fault
use Rattle.pst_lexer.specs.declared.scan.Scanner.{Scanner}
use Rattle.pst_lexer.specs.Fault.{HasFault, AlwaysHasFault}
use Rattle.pst_lexer.specs.Lexing.{AreSoFar, IsTaken}
use Rattle.pst_lexer.specs.Scanning.{IsScanning, IsSmall, IsCertain, IsLexing}
use Rattle.pst_lexer.proofs.Joining.{are_so_far, settled_names}
use Rattle.pst_lexer.proofs.OneAnswer.{one_fault, tokens_no_fault, has_tokens}

-- the table that is handed in has the names of the tokens
pub scanning_names : (names : List (List ℕ)) (s : Scanner) (outcome : Option LexFault) → IsLexing s outcome → AreSoFar s.file names s.taken.items s.tokens.items → IsScanning false names s
scanning_names names s outcome h so_far = record {
  settled = settled_names h.names names s.file s.room s.taken.items s.tokens.items s.start s.place h.scanning.settled so_far;
  seen = h.scanning.seen;
  open_so = h.scanning.open_so;
}

pub scanned_so_far : (names : List (List ℕ)) (s : Scanner) → IsScanning false names s → AreSoFar s.file names s.taken.items s.tokens.items
scanned_so_far names s h = are_so_far names s.file s.room s.taken.items s.tokens.items s.start s.place h.settled

-- the piece was taken whole, unless memory ran out
pub taken_whole : (old piece new : List ℕ) (f : LexFault) → f ≢ fault.NoMemory → IsTaken old piece new (Err f) → new ≡ old ++ piece
taken_whole old piece new (fault.Bad p) other taken = taken
taken_whole old piece new (fault.Wide p) other taken = taken
taken_whole old piece new fault.Many other taken = taken
taken_whole old piece new fault.NoMemory other taken = absurd (other refl)

taken_length : (old piece new : List ℕ) (f : LexFault) → IsTaken old piece new (Err f) → length new ≤ length old + length piece
taken_length old piece new (fault.Bad p) taken = let lengths = ap length taken in omega (arith, length-append old piece)
taken_length old piece new (fault.Wide p) taken = let lengths = ap length taken in omega (arith, length-append old piece)
taken_length old piece new fault.Many taken = let lengths = ap length taken in omega (arith, length-append old piece)
taken_length old piece new fault.NoMemory (inl same) = let lengths = ap length same in omega arith
taken_length old piece new fault.NoMemory (inr taken) = let lengths = ap length taken in omega (arith, length-append old piece)

-- the fault is kept
pub fault_kept : (names : List (List ℕ)) (old new : Scanner) (piece : List ℕ) (f : LexFault) → IsSmall old → new.room ≡ old.room → length old.taken.items + length piece ≤ 2 ^ 31
    → IsScanning false names new → IsTaken old.taken.items piece new.taken.items (Err f) → (f ≢ fault.NoMemory → IsCertain false new f) → IsLexing new (Some f)
fault_kept names old new piece f small room fits h taken certain = record {
  names = names;
  scanning = h;
  small = record { room = let before = small.room in omega arith; taken = omega (arith, taken_length old.taken.items piece new.taken.items f taken) };
  certain = λ g same other.
      let is : f ≡ g = cc in
      subst (IsCertain false new) is (certain (λ memory. other (sym is ∙ memory)));
}

pub fault_certain : (old new : Scanner) (piece : List ℕ) (f : LexFault) → new.file ≡ old.file → new.room ≡ old.room → IsTaken old.taken.items piece new.taken.items (Err f)
    → (f ≢ fault.NoMemory → IsCertain false new f) → f ≢ fault.NoMemory → AlwaysHasFault old.file old.room (old.taken.items ++ piece) f
fault_certain old new piece f file room taken certain other more =
    subst (λ text. HasFault old.file old.room (text ++ more) f) (taken_whole old.taken.items piece new.taken.items f other taken)
    (subst (λ r. HasFault old.file r (new.taken.items ++ more) f) room (subst (λ n. HasFault n new.room (new.taken.items ++ more) f) file (certain other more tt)))

-- the answer is the text's fault, where it has one
pub exact_answer : (file room : ℕ) (names : List (List ℕ)) (text : List ℕ) (r : Result (Vec Token) LexFault)
    → IfOk r (λ tokens. AreTokens file names text tokens.items × (length tokens.items ≤ room + 1)) → IfErr r (λ f. f ≢ fault.NoMemory → HasFault file room text f)
    → (f : LexFault) → HasFault file room text f → (r ≡ Err f) ⊎ (r ≡ Err fault.NoMemory)
exact_answer file room names text (Ok tokens) ok err f h = absurd (tokens_no_fault file room text f (has_tokens file room names text tokens.items ok.0 ok.1) h)
exact_answer file room names text (Err (fault.Bad p)) ok err f h = inl (ap Err (one_fault file room text (fault.Bad p) f (err (λ same. cc)) h))
exact_answer file room names text (Err (fault.Wide p)) ok err f h = inl (ap Err (one_fault file room text (fault.Wide p) f (err (λ same. cc)) h))
exact_answer file room names text (Err fault.Many) ok err f h = inl (ap Err (one_fault file room text fault.Many f (err (λ same. cc)) h))
exact_answer file room names text (Err fault.NoMemory) ok err f h = inr refl

-- a fault that was found is that of the text
pub lexing_fault : (s : Scanner) (outcome : Option LexFault) (f : LexFault) → IsLexing s outcome → outcome ≡ Some f → f ≢ fault.NoMemory → HasFault s.file s.room s.taken.items f
lexing_fault s outcome f h is other = subst (λ text. HasFault s.file s.room text f) (append-nil s.taken.items) (h.certain f is other [] tt)

-- no bytes have no tokens
pub no_tokens : (names : List (List ℕ)) (file : ℕ) (bytes : List ℕ) (tokens : List Token) → bytes ≡ [] → tokens ≡ [] → AreSoFar file names bytes tokens
no_tokens names file bytes tokens no_bytes none =
    subst (λ bs. AreSoFar file names bs tokens) (sym no_bytes) (subst (AreSoFar file names []) (sym none) (record {
      parts = [];
      rest = [];
      front = λ more. record { made = refl; stand = tt };
      each = tt;
    }))
