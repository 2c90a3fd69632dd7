-- What holds of whatever an activity's reading has come to, at a place too.
use Rattle.std.proofs.Common.{ℕ, zero, suc, ◌+◌, ℤ, List, [], ◌∷◌, ◌++◌, length, Bool, true, false, nat_lt, if◌then◌else◌, Option, Some, None, inl, inr, refl}
use Rattle.pst_rng.specs.Words.{start_of}
use Rattle.pst_rng.specs.Weights.{weighted_start_of}
use Rattle.pst_expr.specs.Spans.{size_of}
use Rattle.pst_model.specs.declared.action.Field.{Field}
use Rattle.pst_model.specs.ModelTree.{ModelTree}
use Rattle.pst_model.specs.Sound.{IsSound}
use Rattle.pst_scen.specs.declared.scenario.Scenario.{Scenario}
use Rattle.pst_legal.specs.Growing.{nothing_yet, Look, with_look, most_levels, is_within}
use Rattle.pst_legal.specs.Pieces.{Piece, Action}
use Rattle.pst_legal.specs.Menus.{Menu, Way, Place, Weighted, Closed, menu}
use Rattle.pst_legal.specs.Reading.{Reading, Wants, Stops, Reads, Reader, then_read, option_at, read_place, put_value, value_number, read_fields, read_menu, read_pieces, read_way, read_piece, read_tree}
use Rattle.pst_built.proofs.Members.{In}
use Rattle.pst_built.proofs.Ways.{OfWay, Ways}
use Rattle.pst_built.proofs.SoundPieces.{IsSoundPiece, IsSoundLook, IsSoundWay, menu_sound}

-- what is read so far is such a one
abbrev pub Comes : (Scenario → Type 0) → Reading → Type 0
Comes P (Wants s n) = P s
Comes P Stops = Unit {0}
Comes P (Reads s place left) = P s

comes_if : (P : Scenario → Type 0) (test : Bool) (r : Reading) → Comes P r → Comes P (if test then r else Stops)
comes_if P true r holds = holds
comes_if P false r holds = tt

comes_place : (P : Scenario → Type 0) (start n : ℕ) (go : ℕ → Reader) (s : Scenario) (place : ℕ) (left : List ℕ) → P s
    → ((k next : ℕ) (rest : List ℕ) → Comes P (go k s next rest)) → Comes P (read_place start n go s place left)
comes_place P start n go s place [] holds each = comes_if P (nat_lt 0 n) (Wants s n) holds
comes_place P start n go s place (digit ∷ left) holds each =
    comes_if P (nat_lt digit n) (go (option_at start n digit) s (place + 1) left) (each (option_at start n digit) (place + 1) left)

comes_then : (P : Scenario → Type 0) (r : Reading) (go : Reader) → Comes P r → ((t : Scenario) (place : ℕ) (left : List ℕ) → P t → Comes P (go t place left)) → Comes P (then_read r go)
comes_then P (Wants t n) go holds each = holds
comes_then P Stops go holds each = tt
comes_then P (Reads t place left) go holds each = each t place left holds

comes_menu : (P : Scenario → Type 0) (Q : OfWay) (seed : ℕ) (x : Menu) → Ways Q x → (go : Look → List Field → (List ℤ → List Piece) → Reader) (s : Scenario) (place : ℕ) (left : List ℕ) → P s
    → ((look : Look) (fields : List Field) (below : List ℤ → List Piece) → Q look fields below → (next : ℕ) (rest : List ℕ) → Comes P (go look fields below s next rest))
    → Comes P (read_menu seed x go s place left)
comes_menu P Q seed (Way look fields below) ways go s place left holds each = each look fields below ways place left
comes_menu P Q seed (Place n after) ways go s place left holds each =
    comes_place P (start_of seed place n) n (λ k. read_menu seed (after k) go) s place left holds (λ k next rest. comes_menu P Q seed (after k) (ways k) go s next rest holds each)
comes_menu P Q seed (Weighted weights after) ways go s place left holds each =
    comes_place P (weighted_start_of seed place weights) (length weights) (λ k. read_menu seed (after k) go) s place left holds
    (λ k next rest. comes_menu P Q seed (after k) (ways k) go s next rest holds each)
comes_menu P Q seed Closed ways go s place left holds each = tt

comes_fields : (P : Scenario → Type 0) (seed n : ℕ) (fields : List Field) (known : List ℤ) (go : List ℤ → Reader) (s : Scenario) (place : ℕ) (left : List ℕ) → P s
    → ((t : Scenario) (v : ℤ) → P t → P (put_value t n v))
    → ((values : List ℤ) (t : Scenario) (next : ℕ) (rest : List ℕ) → P t → Comes P (go values t next rest))
    → Comes P (read_fields seed n fields known go s place left)
comes_fields P seed n [] known go s place left holds puts each = each known s place left holds
comes_fields P seed n (field ∷ fields) known go s place left holds puts each =
    comes_place P (start_of seed place (size_of field.domain)) (size_of field.domain)
    (λ k read. read_fields seed n fields (known ++ value_number field k ∷ []) go (put_value read n (value_number field k))) s place left holds
    (λ k next rest. comes_fields P seed n fields (known ++ value_number field k ∷ []) go (put_value s n (value_number field k)) next rest (puts s (value_number field k) holds) puts each)

comes_pieces : (P : Scenario → Type 0) (one : Piece → Option ℕ → Reader) (pieces : List Piece) (parent : ℕ) (s : Scenario) (place : ℕ) (left : List ℕ) → P s
    → ((piece : Piece) → In piece pieces → (t : Scenario) (next : ℕ) (rest : List ℕ) → P t → Comes P (one piece (Some parent) t next rest))
    → Comes P (read_pieces one pieces parent s place left)
comes_pieces P one [] parent s place left holds each = holds
comes_pieces P one (x ∷ xs) parent s place left holds each =
    comes_then P (one x (Some parent) s place left) (read_pieces one xs parent) (each x (inl refl) s place left holds)
    (λ t next rest kept. comes_pieces P one xs parent t next rest kept (λ piece inside. each piece (inr inside)))

-- of a sound model, what each node keeps that its piece may have
module _ (m : ModelTree) (sound : IsSound m) (P : Scenario → Type 0)
    (looks : (s : Scenario) (parent : Option ℕ) (look : Look) → IsSoundLook m look → P s → P (with_look m s parent look))
    (puts : (s : Scenario) (n : ℕ) (v : ℤ) → P s → P (put_value s n v)) where
  comes_way : (seed : ℕ) (one : Piece → Option ℕ → Reader)
      → ((piece : Piece) (top : ℕ) (u : Scenario) (next : ℕ) (rest : List ℕ) → IsSoundPiece m piece → P u → Comes P (one piece (Some top) u next rest))
      → (s : Scenario) (parent : Option ℕ) (look : Look) (fields : List Field) (below : List ℤ → List Piece) → IsSoundWay m look fields below → P s
      → (next : ℕ) (rest : List ℕ) → Comes P (read_way m seed one parent look fields below s next rest)
  comes_way seed one each s parent look fields below way holds next rest =
      comes_if P (is_within (with_look m s parent look)) _
      (comes_fields P seed (length s.nodes) fields [] (λ values. read_pieces one (below values) (length s.nodes)) (with_look m s parent look) next rest
      (looks s parent look way.0 holds) (λ t v kept. puts t (length s.nodes) v kept)
      (λ values t q left kept. comes_pieces P one (below values) (length s.nodes) t q left kept
      (λ piece inside u r more held. each piece (length s.nodes) u r more (way.1 values piece inside) held)))

  comes_piece : (seed levels : ℕ) (piece : Piece) (parent : Option ℕ) (s : Scenario) (place : ℕ) (left : List ℕ) → IsSoundPiece m piece → P s
      → Comes P (read_piece m seed levels piece parent s place left)
  comes_piece seed zero piece parent s place left is holds =
      comes_menu P (IsSoundWay m) seed (menu m piece) (menu_sound m sound piece is) _ s place left holds (λ look fields below way next rest. tt)
  comes_piece seed (suc levels) piece parent s place left is holds =
      comes_menu P (IsSoundWay m) seed (menu m piece) (menu_sound m sound piece is) _ s place left holds
      (λ look fields below way next rest. comes_way seed (read_piece m seed levels)
      (λ piece top u next rest is held. comes_piece seed levels piece (Some top) u next rest is held) s parent look fields below way holds next rest)

  pub comes_tree : (seed root level place : ℕ) (left : List ℕ) → IsSoundPiece m (Action root None) → P (nothing_yet level) → Comes P (read_tree m seed root (nothing_yet level) place left)
  comes_tree seed root level place left is holds = comes_piece seed most_levels (Action root None) None (nothing_yet level) place left is holds
