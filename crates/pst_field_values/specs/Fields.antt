-- The fields of a compound action, and scenarios that go on from one in which they are being read.
use Rattle.std.specs.Prelude.{ℕ, ℤ, List, [], length, Option, Some, None, slice_get}
use Rattle.pst_model.specs.ModelTree.{ModelTree, ActionTree}
use Rattle.pst_scen.specs.declared.tree.Node.{Node}
use Rattle.pst_scen.specs.declared.tree.Fill.{Fill}
use Rattle.pst_scen.specs.declared.tree.Fill.TheVariants as fill
use Rattle.pst_scen.specs.declared.scenario.Scenario.{Scenario}
use Rattle.pst_legal.specs.Types.{type_of}
use Rattle.pst_legal.specs.Slots.{compound_at}
use Rattle.pst_built.specs.Onward.{Onward}
use Rattle.pst_built.specs.Known.{InDomains, HandlesHaveTypes, LeavesHaveActions}

-- the values of the fields of the compound action of a node that are read
abbrev pub values_in : Fill → List ℤ
values_in (fill.Compound action instance values) = values
values_in _ = []

abbrev pub values_of : Option Node → List ℤ
values_of None = []
values_of (Some node) = values_in node.fill

abbrev pub values_at : List Node → ℕ → List ℤ
values_at nodes n = values_of (slice_get nodes n)

-- how many fields an action type has
abbrev pub count_in : Option ActionTree → ℕ
count_in None = 0
count_in (Some type) = length type.fields

abbrev pub count_of : ModelTree → Option ℕ → ℕ
count_of m None = 0
count_of m (Some action) = count_in (type_of m action)

-- how many fields the compound action of a node has, none where the node stands for no compound action
abbrev pub field_count : ModelTree → List Node → ℕ → ℕ
field_count m nodes n = count_of m (compound_at nodes n)

-- A scenario goes on from another one, and what is known of it lies in its domains.
pub record IsLater (m : ModelTree) (s t : Scenario) : Type 0 where
  pub onward : Onward s t
  pub leaves : LeavesHaveActions s
  pub domains : InDomains m t
  pub typed : HandlesHaveTypes m t
