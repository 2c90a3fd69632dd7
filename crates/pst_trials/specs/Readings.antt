-- The laws of reading on small models: an instance of each that computes, and what becomes of it without its premise.
use Rattle.std.specs.Prelude.{◌≡◌, [], ◌∷◌, ◌++◌, true, Some, None}
use Rattle.pst_model.specs.declared.object.ObjectKind.TheVariants.{Buffer}
use Rattle.pst_model.specs.ActivityTree.{Schedule}
use Rattle.pst_model.specs.ModelTree.{ModelTree}
use Rattle.pst_scen.specs.declared.act.Flow.TheVariants.{BufferOut}
use Rattle.pst_scen.specs.declared.act.Link.TheVariants as link
use Rattle.pst_scen.specs.declared.tree.Fill.TheVariants as fill
use Rattle.pst_scen.specs.declared.scenario.Scenario.{Scenario}
use Rattle.pst_legal.specs.Fits.{Fits}
use Rattle.pst_legal.specs.Growing.{nothing_yet}
use Rattle.pst_legal.specs.Reading.{Reads, read_tree}
use Rattle.pst_legal.specs.SupplyReading.{read_supply}
use Rattle.pst_legal.specs.ValueReading.{Options, Dead, Whole, read, read_values, answer_of}
use Rattle.pst_legal.specs.First.{IsBefore, NoneBefore}
use Rattle.pst_trials.specs.Parts.{bare, atomic, top, output, act_of, act_claims, filled, root_node, node, scenario_of}
use Rattle.pst_trials.specs.Locks.{model, twice, scenario, choices}

-- schedule { do A; do A; }, where A locks the one instance
abbrev pub locks : ModelTree
locks = model true (Schedule twice)

-- before the first A, before the second, and before the claims
abbrev pub begun : Scenario
begun = scenario_of 0 (root_node 1 [] ∷ node 0 fill.Schedule ∷ []) [] []

abbrev pub half : Scenario
half = scenario_of 0 (root_node 1 [] ∷ node 0 fill.Schedule ∷ node 1 (fill.Leaf 0) ∷ []) (act_claims 0 (Some 2) [] ∷ []) []

abbrev pub tree : Scenario
tree = scenario_of 0 (root_node 1 [] ∷ node 0 fill.Schedule ∷ node 1 (fill.Leaf 0) ∷ node 1 (fill.Leaf 1) ∷ []) (act_claims 0 (Some 2) [] ∷ act_claims 0 (Some 3) [] ∷ []) []

-- component pss_top { abstract action A { output b_t o; } } without a pool
abbrev pub unserved : ModelTree
unserved = record {
  actions = record (atomic (output 0 ∷ []) []) { is_abstract = true } ∷ [];
  objects = bare Buffer ∷ [];
  instances = top;
  pools = [];
  functions = [];
  served = [];
}

abbrev pub alone : Scenario
alone = scenario_of 0 (record { parent = None; fill = fill.Leaf 0 } ∷ []) (act_of 0 (Some 0) (filled BufferOut [] link.Nothing ∷ []) ∷ []) []

pub record ReadingsAreTried : Type 0 where
  -- a place has an option, and a longer list reads just that place from the scenario so far
  pub place : read locks 1 1 0 (0 ∷ []) ≡ Options begun 1
  pub goes_on : read locks 1 1 0 (0 ∷ 0 ∷ []) ≡ Options half 1
  -- a choice that names no option is dead, and so are the longer lists; behind a list that isn't dead others are not
  pub no_option : read locks 1 1 0 (0 ∷ 1 ∷ []) ≡ Dead
  pub stays_dead : read locks 1 1 0 (0 ∷ 1 ∷ 0 ∷ []) ≡ Dead
  -- nothing stands behind a whole one
  pub whole_ends : read locks 1 1 0 (choices ++ 0 ∷ []) ≡ Dead
  -- the parts one after another, and the activity with a choice too many, which is left
  pub activity : read_tree locks 1 1 (nothing_yet 0) 0 (0 ∷ 0 ∷ 0 ∷ []) ≡ Reads tree 3 []
  pub sources : read_supply locks 1 tree 3 [] ≡ Reads tree 3 []
  pub values : answer_of (read_values locks 1 tree 3 (0 ∷ 0 ∷ [])) ≡ Whole (scenario true fill.Schedule)
  pub one_left : read_tree locks 1 1 (nothing_yet 0) 0 (0 ∷ 0 ∷ 0 ∷ 0 ∷ []) ≡ Reads tree 3 (0 ∷ [])
  -- a legal scenario is read in its own level, and that list is dead in the next
  pub other_level : read locks 1 1 1 choices ≡ Dead
  -- where the root is abstract, what is read need not fit
  pub abstract_is_read : read unserved 0 1 0 (0 ∷ []) ≡ Whole alone
  pub abstract_does_not_fit : Fits unserved 0 alone → ⊥
  -- a prefix is first, then the less choice
  pub prefix_first : IsBefore (0 ∷ []) (0 ∷ 5 ∷ [])
  pub less_first : IsBefore (0 ∷ 5 ∷ []) (1 ∷ [])
  -- the step down passes the list itself, so it must read no legal scenario
  pub down_passes : NoneBefore locks 1 1 0 (choices ++ 0 ∷ []) → ⊥
