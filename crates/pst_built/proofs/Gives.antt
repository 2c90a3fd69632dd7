-- What every reading gives that reads.
use Rattle.std.proofs.Common.{◌≡◌, ℕ, ◌+◌, ◌%◌, List, [], ◌∷◌, Bool, true, false, nat_lt, if◌then◌else◌, Option, Some, refl, inl, inr}
use Rattle.pst_rng.specs.Words.{start_of}
use Rattle.pst_scen.specs.declared.scenario.Scenario.{Scenario}
use Rattle.pst_legal.specs.Pieces.{Piece}
use Rattle.pst_legal.specs.Reading.{Reading, Wants, Stops, Reads, Reader, then_read, read_place, read_seeded, read_pieces}
use Rattle.pst_built.proofs.Members.{In}

-- a scenario that has been read is such a one
abbrev pub Gives : (Scenario → Type 0) → Reading → Type 0
Gives P (Wants s n) = Unit {0}
Gives P Stops = Unit {0}
Gives P (Reads s place left) = P s

pub gives_if : (P : Scenario → Type 0) (test : Bool) (one other : Reading) → (test ≡ true → Gives P one) → Gives P other → Gives P (if test then one else other)
gives_if P true one other first second = first refl
gives_if P false one other first second = second

pub gives_more : (P Q : Scenario → Type 0) (reading : Reading) → Gives P reading → ((s : Scenario) → P s → Q s) → Gives Q reading
gives_more P Q (Wants s n) first each = tt
gives_more P Q Stops first each = tt
gives_more P Q (Reads s place left) first each = each s first

-- whatever option is named
pub gives_place : (P : Scenario → Type 0) (start n : ℕ) (go : ℕ → Reader) (s : Scenario) (place : ℕ) (left : List ℕ)
    → ((k next : ℕ) (rest : List ℕ) → Gives P (go k s next rest)) → Gives P (read_place start n go s place left)
gives_place P start n go s place [] each = gives_if P (nat_lt 0 n) (Wants s n) Stops (λ e. tt) tt
gives_place P start n go s place (digit ∷ left) each = gives_if P (nat_lt digit n) (go ((start + digit) % n) s (place + 1) left) Stops (λ e. each ((start + digit) % n) (place + 1) left) tt

pub gives_seeded : (P : Scenario → Type 0) (seed n : ℕ) (go : ℕ → Reader) (s : Scenario) (place : ℕ) (left : List ℕ)
    → ((k next : ℕ) (rest : List ℕ) → Gives P (go k s next rest)) → Gives P (read_seeded seed n go s place left)
gives_seeded P seed n go s place left each = gives_place P (start_of seed place n) n go s place left each

pub gives_then : (P Q : Scenario → Type 0) (reading : Reading) (go : Reader) → Gives P reading
    → ((s : Scenario) (place : ℕ) (left : List ℕ) → P s → Gives Q (go s place left)) → Gives Q (then_read reading go)
gives_then P Q (Wants s n) go first each = tt
gives_then P Q Stops go first each = tt
gives_then P Q (Reads s place left) go first each = each s place left first

-- each of the pieces keeps what holds before it
pub gives_pieces : (P : Scenario → Type 0) (one : Piece → Option ℕ → Reader) (pieces : List Piece) (parent : ℕ) (s : Scenario) (place : ℕ) (left : List ℕ) → P s
    → ((piece : Piece) → In piece pieces → (t : Scenario) (next : ℕ) (rest : List ℕ) → P t → Gives P (one piece (Some parent) t next rest))
    → Gives P (read_pieces one pieces parent s place left)
gives_pieces P one [] parent s place left holds each = holds
gives_pieces P one (x ∷ xs) parent s place left holds each =
    gives_then P P (one x (Some parent) s place left) (read_pieces one xs parent) (each x (inl refl) s place left holds)
    (λ t next rest kept. gives_pieces P one xs parent t next rest kept (λ piece inside. each piece (inr inside)))

pub gives_both : (P Q : Scenario → Type 0) (reading : Reading) → Gives P reading → Gives Q reading → Gives (λ s. P s × Q s) reading
gives_both P Q (Wants s n) first second = tt
gives_both P Q Stops first second = tt
gives_both P Q (Reads s place left) first second = (first, second)
