-- What holds of each way of a menu.
use Rattle.std.proofs.Common.{ℕ, ℤ, List, length, Bool, true, false, if◌then◌else◌}
use Rattle.pst_rng.specs.Weights.{weighted_start_of}
use Rattle.pst_model.specs.declared.action.Field.{Field}
use Rattle.pst_scen.specs.declared.scenario.Scenario.{Scenario}
use Rattle.pst_legal.specs.Growing.{Look}
use Rattle.pst_legal.specs.Pieces.{Piece}
use Rattle.pst_legal.specs.Menus.{Menu, Way, Place, Weighted, Closed}
use Rattle.pst_legal.specs.Reading.{Reader, read_menu}
use Rattle.pst_built.proofs.Gives.{Gives, gives_place, gives_seeded}

-- a way's node, the fields of its action, and what stands below it
abbrev pub OfWay : Type 1
OfWay = Look → List Field → (List ℤ → List Piece) → Type 0

abbrev pub Ways : OfWay → Menu → Type 0
Ways Q (Way look fields below) = Q look fields below
Ways Q (Place n after) = (k : ℕ) → Ways Q (after k)
Ways Q (Weighted weights after) = (k : ℕ) → Ways Q (after k)
Ways Q Closed = Unit {0}

pub ways_if : (Q : OfWay) (test : Bool) (one other : Menu) → Ways Q one → Ways Q other → Ways Q (if test then one else other)
ways_if Q true one other first second = first
ways_if Q false one other first second = second

-- whatever way is read
pub gives_menu : (P : Scenario → Type 0) (Q : OfWay) (seed : ℕ) (m : Menu) → Ways Q m → (go : Look → List Field → (List ℤ → List Piece) → Reader) (s : Scenario) (place : ℕ) (left : List ℕ)
    → ((look : Look) (fields : List Field) (below : List ℤ → List Piece) → Q look fields below → (next : ℕ) (rest : List ℕ) → Gives P (go look fields below s next rest))
    → Gives P (read_menu seed m go s place left)
gives_menu P Q seed (Way look fields below) ways go s place left each = each look fields below ways place left
gives_menu P Q seed (Place n after) ways go s place left each =
    gives_seeded P seed n (λ k. read_menu seed (after k) go) s place left (λ k next rest. gives_menu P Q seed (after k) (ways k) go s next rest each)
gives_menu P Q seed (Weighted weights after) ways go s place left each =
    gives_place P (weighted_start_of seed place weights) (length weights) (λ k. read_menu seed (after k) go) s place left
    (λ k next rest. gives_menu P Q seed (after k) (ways k) go s next rest each)
gives_menu P Q seed Closed ways go s place left each = tt
