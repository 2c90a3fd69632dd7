-- What lists of choices read at the places of fields.
use Rattle.std.specs.Prelude.{◌≡◌, ℕ, List, [], ◌∷◌, ◌++◌, length}
use Rattle.pst_rng.specs.Words.{start_of}
use Rattle.pst_expr.specs.Spans.{size_of}
use Rattle.pst_model.specs.declared.action.Field.{Field}
use Rattle.pst_model.specs.ModelTree.{ModelTree}
use Rattle.pst_scen.specs.declared.scenario.Scenario.{Scenario}
use Rattle.pst_legal.specs.Reading.{option_at, value_number}
use Rattle.pst_legal.specs.ValueReading.{Options, read}
use Rattle.pst_built.specs.SoFar.{HasRead}
use Rattle.pst_field_places.specs.Places.{IsAtField, HasValues}

-- Where a field's value is next, the list has read the scenario so far, and has an option for each value of the field's domain.
abbrev pub FieldsArePlaces : Type 0
FieldsArePlaces =
    (m : ModelTree) (root seed level : ℕ) (choices : List ℕ) (node : ℕ) (field : Field) (more : List Field) (s : Scenario) (n : ℕ)
    → (at : IsAtField m root seed level choices node (field ∷ more)) → read m root seed level choices ≡ Options s n → (s ≡ at.so_far) × (n ≡ size_of field.domain)

-- Whatever a longer list reads, the node has the values known and then the one that the next choice names.
abbrev pub FieldsHaveValues : Type 0
FieldsHaveValues =
    (m : ModelTree) (root seed level : ℕ) (choices : List ℕ) (node : ℕ) (field : Field) (more : List Field) (digit : ℕ) (rest : List ℕ) (t : Scenario)
    → (at : IsAtField m root seed level choices node (field ∷ more)) → HasRead (read m root seed level (choices ++ digit ∷ rest)) t
    → HasValues t.nodes node at.action (at.known ++ value_number field (option_at (start_of seed (length choices) (size_of field.domain)) (size_of field.domain) digit) ∷ [])
