-- The actions of what is read so far.
use Rattle.std.specs.Prelude.{◌≡◌, ℕ, List, Some, false, length, slice_get}
use Rattle.pst_model.specs.declared.action.Reference.{Reference}
use Rattle.pst_model.specs.declared.model.Part.{Part}
use Rattle.pst_model.specs.ModelTree.{ModelTree, ActionTree}
use Rattle.pst_model.specs.Served.{IsAtomic}
use Rattle.pst_model.specs.Sound.{IsSound}
use Rattle.pst_scen.specs.declared.act.Act.{Act}
use Rattle.pst_scen.specs.declared.act.Filled.{Filled}
use Rattle.pst_scen.specs.declared.act.Link.TheVariants as link
use Rattle.pst_scen.specs.declared.scenario.Scenario.{Scenario}
use Rattle.pst_scen.specs.Scenarios.{reference_at}
use Rattle.pst_legal.specs.Types.{type_of, served, reference_flow}
use Rattle.pst_legal.specs.ValueReading.{read}
use Rattle.pst_built.specs.Laws.{IsConcreteRoot}
use Rattle.pst_built.specs.SoFar.{HasRead}

-- the reference of that number: its kind is the model's, and its pool is the one that serves it
pub record IsServedBy (m : ModelTree) (x : Act) (type : ActionTree) (r : ℕ) (filled : Filled) : Type 0 where
  pub reference : Reference
  pub is : slice_get type.references r ≡ Some reference
  pub pool : served m x.action x.instance r ≡ Some filled.pool
  pub flow : reference_flow m reference ≡ Some filled.flow

-- the type is atomic and not abstract, the instance is one of its component, and the references are the type's
pub record IsOfItsType (m : ModelTree) (x : Act) : Type 0 where
  pub type : ActionTree
  pub is : type_of m x.action ≡ Some type
  pub atomic : IsAtomic type.content
  pub concrete : type.is_abstract ≡ false
  pub part : Part
  pub is_part : slice_get m.instances x.instance ≡ Some part
  pub component : part.component ≡ type.component
  pub many : length x.references ≡ length type.references
  pub references : (r : ℕ) (filled : Filled) → slice_get x.references r ≡ Some filled → IsServedBy m x type r filled

-- So it is of each action that a list of choices has read, whole or so far, for a root that isn't abstract.
abbrev pub ActsAreOfTheirTypes : Type 0
ActsAreOfTheirTypes =
    (m : ModelTree) (root seed level : ℕ) (choices : List ℕ) (s : Scenario) → IsSound m → IsConcreteRoot m root → HasRead (read m root seed level choices) s
    → (a : ℕ) (x : Act) → slice_get s.actions a ≡ Some x → IsOfItsType m x

-- A link that is read leads to a reference in the same pool.
abbrev pub LinksJoinPools : Type 0
LinksJoinPools =
    (m : ModelTree) (root seed level : ℕ) (choices : List ℕ) (s : Scenario) → HasRead (read m root seed level choices) s
    → (a r b q : ℕ) (filled : Filled) → reference_at s.actions a r ≡ Some filled → filled.link ≡ link.Act b q → (other : Filled) × (reference_at s.actions b q ≡ Some other) × (other.pool ≡ filled.pool)
