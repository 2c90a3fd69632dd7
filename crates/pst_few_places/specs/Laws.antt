-- Where few places refuse a list.
use Rattle.std.specs.Prelude.{◌≡◌, ℕ, List, [], ◌++◌, Contains, slice_get}
use Rattle.pst_model.specs.ModelTree.{ModelTree}
use Rattle.pst_scen.specs.declared.scenario.Scenario.{Scenario}
use Rattle.pst_scen.specs.Refusals.{IsUnrefused}
use Rattle.pst_legal.specs.Growing.{nothing_yet}
use Rattle.pst_legal.specs.Reading.{Reads, then_read, read_tree}
use Rattle.pst_legal.specs.SupplyReading.{read_supply}
use Rattle.pst_legal.specs.ValueReading.{with_firsts}
use Rattle.pst_legal.specs.Constraints.{Holds}
use Rattle.pst_legal.specs.First.{ReadsLegal}
use Rattle.pst_few_places.specs.Fillings.{all_blanks, AreOptions, filled, named}

-- the two lists have the same at these places
abbrev pub AgreeAt : List ℕ → List ℕ → List ℕ → Type 0
AgreeAt places xs ys = (i : ℕ) → Contains places i → slice_get xs i ≡ slice_get ys i

-- Where the front reads the activity and the sources, and no options of the blanks that agree at some places with those that the
-- present choices name keep all constraints without that a plan refuses them, no list that has these choices at those places reads
-- a legal scenario.
abbrev pub FewPlacesRefuse : Type 0
FewPlacesRefuse =
    (m : ModelTree) (root seed level : ℕ) (front present : List ℕ) (u : Scenario) (place : ℕ) (places : List ℕ)
    → then_read (read_tree m seed root (nothing_yet level) 0 front) (read_supply m seed) ≡ Reads u place []
    → ((chosen : List ℕ) → AreOptions m u.actions (all_blanks m u) chosen → AgreeAt places chosen (named m seed u.actions (all_blanks m u) place present)
    → Holds m (filled m (all_blanks m u) chosen (with_firsts m u)) → IsUnrefused (filled m (all_blanks m u) chosen (with_firsts m u)) → ⊥)
    → (other : List ℕ) → AgreeAt places other present → (t : Scenario) → ReadsLegal m root seed level (front ++ other) t → ⊥
