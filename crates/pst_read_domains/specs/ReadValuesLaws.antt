-- The values of compound actions in what is read so far.
use Rattle.std.specs.Prelude.{◌≡◌, ℕ, ℤ, List, Some, slice_get}
use Rattle.pst_model.specs.declared.action.Field.{Field}
use Rattle.pst_model.specs.ModelTree.{ModelTree}
use Rattle.pst_model.specs.Sound.{IsSound}
use Rattle.pst_scen.specs.declared.tree.Node.{Node}
use Rattle.pst_scen.specs.declared.tree.Fill.TheVariants as fill
use Rattle.pst_scen.specs.declared.scenario.Scenario.{Scenario}
use Rattle.pst_legal.specs.Types.{action_field}
use Rattle.pst_legal.specs.Pieces.{IsValueOf}
use Rattle.pst_legal.specs.ValueReading.{read}
use Rattle.pst_built.specs.SoFar.{HasRead}

-- each value of a compound action is of its field's domain
abbrev pub CompoundsAreValued : ModelTree → Scenario → Type 0
CompoundsAreValued m s =
    (n : ℕ) (node : Node) (action instance : ℕ) (values : List ℤ) (i : ℕ) (v : ℤ) → slice_get s.nodes n ≡ Some node → node.fill ≡ fill.Compound action instance values → slice_get values i ≡ Some v
    → (field : Field) × (action_field m action i ≡ Some field) × IsValueOf field v

-- So it is in whatever a list of choices has read, of a sound model.
abbrev pub CompoundValuesAreInDomains : Type 0
CompoundValuesAreInDomains = (m : ModelTree) (root seed level : ℕ) (choices : List ℕ) (s : Scenario) → IsSound m → HasRead (read m root seed level choices) s → CompoundsAreValued m s
