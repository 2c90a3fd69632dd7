-- What the laws of reading say of small instances, and what fails where a premise is taken away.
use Rattle.std.specs.Prelude.{◌≡◌, ℕ, pos, List, [], ◌∷◌, Contains, true, false, Some, None}
use Rattle.pst_expr.specs.declared.tree.BinaryOp.TheVariants.{Equal}
use Rattle.pst_expr.specs.Tree.{Variable}
use Rattle.pst_model.specs.declared.object.ObjectKind.TheVariants.{Buffer, Stream}
use Rattle.pst_model.specs.ConstraintTree.{ConstraintTree, Own, Prev, Object}
use Rattle.pst_model.specs.ActivityTree.{Parallel}
use Rattle.pst_model.specs.ModelTree.{ModelTree, ActionTree}
use Rattle.pst_model.specs.Sound.{IsSound}
use Rattle.pst_scen.specs.declared.tree.Fill.TheVariants as fill
use Rattle.pst_scen.specs.declared.act.Act.{Act}
use Rattle.pst_scen.specs.declared.act.Filled.{Filled}
use Rattle.pst_scen.specs.declared.act.Flow.TheVariants.{BufferOut, StreamIn, StreamOut, StateIn}
use Rattle.pst_scen.specs.declared.act.Link.TheVariants as link
use Rattle.pst_scen.specs.declared.scenario.Scenario.{Scenario}
use Rattle.pst_legal.specs.Fits.{Fits}
use Rattle.pst_legal.specs.Blanks.{Instance, OfOutput, options}
use Rattle.pst_legal.specs.Standing.{Open}
use Rattle.pst_legal.specs.Slots.{act_slot, output_slot, first_object_slot}
use Rattle.pst_legal.specs.Constraints.{HasConstraint, is_refused_at}
use Rattle.pst_legal.specs.First.{ReadsLegal, NoneBefore, AreLive}
use Rattle.pst_legal.specs.ValueReading.{Options, Dead, Whole, read}
use Rattle.pst_built.specs.OrderStaysLaws.{IsBarren}
use Rattle.pst_built.specs.LongerLaws.{IsAtPlace}
use Rattle.pst_slots.specs.Decided.{IsPlaced}
use Rattle.pst_list_order.specs.Passed.{NonePassed}
use Rattle.pst_few_places.specs.Laws.{AgreeAt}
use Rattle.pst_read_so_far.specs.Joined.{JoinOpenEnds}
use Rattle.pst_read_so_far.specs.OpenBlanks.{open_blanks, to_come}
use Rattle.pst_trials.specs.Parts.{name, span, field_to, bare, output, atomic, compound, top, pool_of, serve, traverse, filling, by, constraint, act_of, act_claims, filled, root_node, node, scenario_of, input}
use Rattle.pst_trials.specs.Inference.{model as inferring, scenario as inferred}
use Rattle.pst_trials.specs.Supplies.{shared}
use Rattle.pst_law_trials.specs.Models.{buffers, consumer, producer, claims, claiming, states, at_first}

-- ---- longer lists

-- so far, of the claims' model: both actions are there, and neither has its instance; then the first has
abbrev pub unclaimed : List Act → Scenario
unclaimed actions = scenario_of 0 (root_node 2 [] ∷ node 0 fill.Parallel ∷ node 1 (fill.Leaf 0) ∷ node 1 (fill.Leaf 1) ∷ []) actions []

abbrev pub both_open : Scenario
both_open = unclaimed (act_claims 0 (Some 2) [] ∷ act_claims 1 (Some 3) [] ∷ [])

abbrev pub second_open : Scenario
second_open = unclaimed (act_claims 0 (Some 2) (record { pool = 0; lock = true; instance = 1; values = [] } ∷ []) ∷ act_claims 1 (Some 3) [] ∷ [])

-- and while the activity is read, the first action alone
abbrev pub one_there : Scenario
one_there = scenario_of 0 (root_node 2 [] ∷ node 0 fill.Parallel ∷ node 1 (fill.Leaf 0) ∷ []) (act_claims 0 (Some 2) [] ∷ []) []

pub record LongerListsAreTried : Type 0 where
  -- a place, and a choice that names no option of it
  pub place : read claims 2 1 0 (0 ∷ 0 ∷ 0 ∷ []) ≡ Options both_open 2
  pub no_option : read claims 2 1 0 (0 ∷ 0 ∷ 0 ∷ 2 ∷ []) ≡ Dead
  -- one that does goes on
  pub an_option : read claims 2 1 0 (0 ∷ 0 ∷ 0 ∷ 0 ∷ []) ≡ Options second_open 2
  -- what is dead stays so
  pub stays_dead : (more : List ℕ) → read claims 2 1 0 (0 ∷ 0 ∷ 0 ∷ 2 ∷ more) ≡ Dead
  -- and has no place
  pub no_place : (s : Scenario) (n : ℕ) → IsAtPlace claims 2 1 0 (0 ∷ 0 ∷ 0 ∷ 2 ∷ []) s n → ⊥
  -- behind a whole one nothing stands, but behind one that isn't whole something does
  pub whole_ends : read claims 2 1 0 (0 ∷ 0 ∷ 0 ∷ 0 ∷ 0 ∷ 0 ∷ []) ≡ Dead
  pub others_go_on : read claims 2 1 0 (0 ∷ 0 ∷ 0 ∷ 0 ∷ 0 ∷ []) ≡ Whole (claiming 1 0)

-- ---- blanks

-- a stream object with a field, and a constraint of it on what came before it, which a sound model has of states alone
abbrev pub of_before : ConstraintTree
of_before = constraint (by Equal (Variable 0) (Variable 1)) (Own 0 ∷ Prev 0 ∷ [])

abbrev pub unsound : ModelTree
unsound = record {
  actions = atomic (output 0 ∷ []) [] ∷ atomic (input 0 ∷ []) [] ∷ compound [] (Parallel (filling (traverse 0 ∷ traverse 1 ∷ [])) ∷ []) [] ∷ [];
  objects = record { name = name 1; kind = Stream; fields = field_to 1 ∷ []; constraints = of_before ∷ [] } ∷ [];
  instances = top;
  pools = pool_of 0 ∷ [];
  functions = [];
  served = serve 0 0 ∷ serve 1 0 ∷ [];
}

abbrev pub sender : Filled
sender = filled StreamOut [] (link.Act 1 0)

abbrev pub joined_ends : Scenario
joined_ends = scenario_of 0
    (root_node 2 [] ∷ node 0 fill.Parallel ∷ node 1 (fill.Leaf 0) ∷ node 1 (fill.Leaf 1) ∷ [])
    (act_of 0 (Some 2) (sender ∷ []) ∷ act_of 1 (Some 3) (filled StreamIn [] (link.Act 0 0) ∷ []) ∷ [])
    []

-- a reader that isn't linked yet
abbrev pub unlinked_reader : Act
unlinked_reader = act_of 1 (Some 1) (filled StateIn [] link.Nothing ∷ [])

abbrev pub unlinked : Scenario
unlinked = scenario_of 0 (root_node 2 [] ∷ node 0 (fill.Leaf 0) ∷ []) (unlinked_reader ∷ []) []

pub record BlanksAreTried : Type 0 where
  -- the open blanks are those to come: both claims, and then the second alone, whose place is at hand
  pub two_open : open_blanks claims both_open ≡ Instance 0 0 ∷ Instance 1 0 ∷ []
  pub two_to_come : to_come claims 2 1 0 (0 ∷ 0 ∷ 0 ∷ []) both_open ≡ Instance 0 0 ∷ Instance 1 0 ∷ []
  pub one_open : open_blanks claims second_open ≡ Instance 1 0 ∷ []
  pub one_to_come : to_come claims 2 1 0 (0 ∷ 0 ∷ 0 ∷ 0 ∷ []) second_open ≡ Instance 1 0 ∷ []
  -- while the activity is read the place at hand isn't that of the first open blank
  pub not_yet : read claims 2 1 0 (0 ∷ 0 ∷ []) ≡ Options one_there 1
  pub open_already : open_blanks claims one_there ≡ Instance 0 0 ∷ []
  pub other_options : options claims one_there.actions (Instance 0 0) ≡ 2
  -- of a model that isn't sound an open slot may wait for nothing
  pub reads_ends : read unsound 2 1 0 (0 ∷ 0 ∷ 0 ∷ 0 ∷ []) ≡ Options joined_ends 2
  pub has_constraint : HasConstraint unsound joined_ends of_before (output_slot unsound joined_ends 0 0 sender)
  pub is_open : output_slot unsound joined_ends 0 0 sender (Prev 0) ≡ Open (OfOutput 1 0 0) (span 0 1)
  pub waits_for_nothing : Contains (open_blanks unsound joined_ends) (OfOutput 1 0 0) → ⊥
  -- while the sources are read a slot may have no place
  pub reads_unlinked : read states 2 1 0 (0 ∷ 0 ∷ []) ≡ Options unlinked 1
  pub isn't_placed : IsPlaced (act_slot states unlinked 0 unlinked_reader (Object 0 0)) → ⊥
  -- one output to two inputs: no list reads that
  pub joins_no_open_ends : JoinOpenEnds shared → ⊥

-- ---- what is read fits, and what is legal is read

-- buffer b_t { } component pss_top { abstract action entry { output b_t o; } }
abbrev pub abstract_action : ActionTree
abstract_action = record (atomic (output 0 ∷ []) []) { is_abstract = true }

abbrev pub abstract_root : ModelTree
abstract_root = record { actions = abstract_action ∷ []; objects = bare Buffer ∷ []; instances = top; pools = []; functions = []; served = [] }

abbrev pub alone : Scenario
alone = scenario_of 0 (record { parent = None; fill = fill.Leaf 0 } ∷ []) (act_of 0 (Some 0) (filled BufferOut [] link.Nothing ∷ []) ∷ []) []

-- both consumers have a producer of their own, but the first one has the second
abbrev pub swapped : Scenario
swapped = scenario_of 2 (root_node 2 [] ∷ node 0 (fill.Leaf 0) ∷ node 0 (fill.Leaf 1) ∷ []) (consumer 1 3 ∷ consumer 2 2 ∷ producer ∷ producer ∷ []) []

pub record ReadingsAreTried : Type 0 where
  -- a sound model of which the root is abstract: what is read whole doesn't fit
  pub sound : IsSound abstract_root
  pub reads_alone : read abstract_root 0 1 0 (0 ∷ []) ≡ Whole alone
  pub doesn't_fit : Fits abstract_root 0 alone → ⊥
  -- inferred actions that are numbered otherwise are read by no list
  pub isn't_read : (choices : List ℕ) → read buffers 2 1 2 choices ≡ Whole swapped → ⊥
  -- up to the sources a list that isn't dead may begin no whole one
  pub lives : read buffers 2 1 0 (0 ∷ []) ≡ Options (scenario_of 0 (root_node 2 [] ∷ []) [] []) 1
  pub dies : (more : List ℕ) → read buffers 2 1 0 (0 ∷ 0 ∷ 0 ∷ more) ≡ Dead

-- ---- refusals

-- so far, of the states' model: the first object has this value
abbrev pub first_has : ℕ → Scenario
first_has x = scenario_of 0 (root_node 2 [] ∷ node 0 (fill.Leaf 0) ∷ []) (act_of 1 (Some 1) (filled StateIn [] link.Initial ∷ []) ∷ []) (record { pool = 0; values = pos x ∷ [] } ∷ [])

pub record RefusalsAreTried : Type 0 where
  -- where the first object has 1 its constraint is refused, where it has 0 not, and before it is read not
  pub refused_at_one : is_refused_at at_first (first_object_slot states (first_has 1) 0) ≡ true
  pub open_at_zero : is_refused_at at_first (first_object_slot states (first_has 0) 0) ≡ false
  pub open_before : is_refused_at at_first (first_object_slot states unlinked 0) ≡ false
  -- where nothing is refused, and no plan refuses, a longer list may read a legal scenario
  pub reads_legal : ReadsLegal inferring 2 1 1 (0 ∷ 0 ∷ 0 ∷ []) inferred
  pub isn't_barren : IsBarren inferring 2 1 1 [] → ⊥
  -- and where places are kept that refuse nothing
  pub places_keep : ((other : List ℕ) → AgreeAt [] other [] → (t : Scenario) → ReadsLegal inferring 2 1 1 (0 ∷ 0 ∷ 0 ∷ other) t → ⊥) → ⊥

-- ---- the order of lists

pub record OrdersAreTried : Type 0 where
  -- behind a list that reads a legal scenario the search doesn't go down
  pub not_down : NoneBefore inferring 2 1 1 (0 ∷ 0 ∷ 0 ∷ 0 ∷ []) → ⊥
  -- nor over one that begins such a list
  pub not_over : NonePassed inferring 2 1 1 (0 ∷ []) → ⊥
  -- a level that has a legal scenario doesn't end
  pub doesn't_end : NonePassed inferring 2 1 1 [] → ⊥
  -- a dead list isn't one of live ones, and one list isn't two
  pub not_dead : AreLive inferring 2 1 1 ((1 ∷ []) ∷ []) → ⊥
  pub not_twice : AreLive inferring 2 1 1 ((0 ∷ []) ∷ (0 ∷ []) ∷ []) → ⊥
