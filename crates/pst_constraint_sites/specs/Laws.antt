-- What slots and sites tell of every scenario that differs in values alone.
use Rattle.std.specs.Prelude.{◌≡◌, map, Contains}
use Rattle.pst_model.specs.ConstraintTree.{SlotTree, ConstraintTree}
use Rattle.pst_model.specs.ModelTree.{ModelTree}
use Rattle.pst_scen.specs.declared.scenario.First.{First}
use Rattle.pst_scen.specs.declared.scenario.Scenario.{Scenario}
use Rattle.pst_legal.specs.Blanks.{used_state_pools}
use Rattle.pst_legal.specs.Standing.{Standing}
use Rattle.pst_legal.specs.Constraints.{HasConstraint}
use Rattle.pst_refusals.specs.Answers.{StandEarlier}
use Rattle.pst_blank_values.specs.Values.{IsSameButValues}
use Rattle.pst_constraint_sites.specs.Sites.{SiteTree, slot_at}
use Rattle.pst_constraint_sites.specs.Senses.{sense_at, Tells}
use Rattle.pst_constraint_sites.specs.Groups.{GroupTree, groups}

-- What a slot stands for at a site, whatever the values are.
abbrev pub SensesTell : Type 0
SensesTell = (m : ModelTree) (s t : Scenario) → IsSameButValues s t → (site : SiteTree) (slot : SlotTree) → Tells m t (sense_at m s site slot) (slot_at m t site slot)

-- the scenario has the constraint, and its slots stand for what they stand for at the site
abbrev pub HasAt : ModelTree → Scenario → SiteTree → ConstraintTree → Type 0
HasAt m t site k = (standing : SlotTree → Standing) × HasConstraint m t k standing × ((slot : SlotTree) → slot_at m t site slot ≡ standing slot)

-- a first object for each state pool that is used
abbrev pub HasFirstObjects : ModelTree → Scenario → Type 0
HasFirstObjects m s = map (λ (first : First). first.pool) s.firsts ≡ used_state_pools m s.actions

-- Each constraint of each group is one of the scenario, whatever the values are.
abbrev pub GroupsHaveConstraints : Type 0
GroupsHaveConstraints =
    (m : ModelTree) (s t : Scenario) → HasFirstObjects m s → IsSameButValues s t → (group : GroupTree) → Contains (groups m s) group → (k : ConstraintTree) → Contains group.constraints k → HasAt m t group.site k

-- the constraint is one of a group, and its slots stand there for what they stand for at the site of the group
pub record IsGrouped (m : ModelTree) (s t : Scenario) (k : ConstraintTree) (standing : SlotTree → Standing) : Type 0 where
  pub group : GroupTree
  pub is : Contains (groups m s) group
  pub has : Contains group.constraints k
  pub same : (slot : SlotTree) → slot_at m t group.site slot ≡ standing slot

-- Each constraint of the scenario, whatever the values are, is one of a group.
abbrev pub ConstraintsAreGrouped : Type 0
ConstraintsAreGrouped =
    (m : ModelTree) (s t : Scenario) → HasFirstObjects m s → StandEarlier t.nodes → IsSameButValues s t → (k : ConstraintTree) (standing : SlotTree → Standing) → HasConstraint m t k standing → IsGrouped m s t k standing
