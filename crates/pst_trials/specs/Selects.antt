-- A choice among branches with guards and weights, and a choice by value.
use Rattle.std.specs.Prelude.{◌≡◌, ℕ, pos, List, [], ◌∷◌, Option, Some, None}
use Rattle.pst_expr.specs.declared.tree.BinaryOp.TheVariants.{Equal, Greater, Less}
use Rattle.pst_expr.specs.Tree.{Variable}
use Rattle.pst_rng.specs.Words.{word_of}
use Rattle.pst_rng.specs.Weights.{weighted_start_of}
use Rattle.pst_model.specs.ConstraintTree.{ConstraintTree, Own}
use Rattle.pst_model.specs.ActivityTree.{StepTree, ArmRow, Select, Match, MakeBranch, MakeArm, NoBranches, MoreBranches, NoArms, MoreArms, NoStep}
use Rattle.pst_model.specs.ModelTree.{ModelTree}
use Rattle.pst_scen.specs.declared.tree.Fill.TheVariants as fill
use Rattle.pst_scen.specs.declared.scenario.Scenario.{Scenario}
use Rattle.pst_legal.specs.Legal.{Legal}
use Rattle.pst_legal.specs.ValueReading.{Dead, Whole, read}
use Rattle.pst_trials.specs.Parts.{span, field_to, atomic, compound, top, traverse, number, by, constraint, act_of, root_node, node, scenario_of, places}

-- n == 3, n > 5, n < 9
abbrev pub is_three : ConstraintTree
is_three = constraint (by Equal (Variable 0) (number 3)) (Own 0 ∷ [])

abbrev pub above_five : ConstraintTree
above_five = constraint (by Greater (Variable 0) (number 5)) (Own 0 ∷ [])

abbrev pub below_nine : ConstraintTree
below_nine = constraint (by Less (Variable 0) (number 9)) (Own 0 ∷ [])

abbrev pub the_number : ConstraintTree
the_number = constraint (Variable 0) (Own 0 ∷ [])

-- select { (n > 5): do A; [20]: do B; }, the second branch with this guard
abbrev pub branches : Option ConstraintTree → StepTree
branches guard = Select (MoreBranches (MakeBranch (Some above_five) 1 (traverse 0)) (MoreBranches (MakeBranch guard 20 (traverse 1)) NoBranches))

-- match (n) { [0..2]: do A; .. }
abbrev pub arms : ArmRow → StepTree
arms more = Match the_number (MoreArms (MakeArm (span 0 2 ∷ []) (traverse 0)) more) NoStep

-- [3]: do B;
abbrev pub arm_of_three : ArmRow
arm_of_three = MoreArms (MakeArm (span 3 3 ∷ []) (traverse 1)) NoArms

-- component pss_top { action A { } action B { } action entry { rand bit[4] n; constraint n == 3; activity { .. } } }
abbrev pub model : List StepTree → ModelTree
model steps = record {
  actions = atomic [] [] ∷ atomic [] [] ∷ record (compound [] steps []) { fields = field_to 15 ∷ []; constraints = is_three ∷ [] } ∷ [];
  objects = [];
  instances = top;
  pools = [];
  functions = [];
  served = [];
}

-- branch 1 of the first, arm 1 of the second
abbrev pub scenario : Scenario
scenario = scenario_of 0
    (root_node 2 (pos 3 ∷ []) ∷ node 0 (fill.Select 1) ∷ node 1 (fill.Leaf 0) ∷ node 0 (fill.Match (Some 1)) ∷ node 3 (fill.Leaf 1) ∷ [])
    (act_of 1 (Some 2) [] ∷ act_of 1 (Some 4) [] ∷ [])
    []

-- two branches that may both be taken
abbrev pub both : StepTree
both = Select (MoreBranches (MakeBranch None 1 (traverse 0)) (MoreBranches (MakeBranch None 20 (traverse 1)) NoBranches))

-- the root's number is 3, and the place of select is place 2
abbrev pub taken : ℕ → ℕ → Scenario
taken branch action = scenario_of 0
    (root_node 2 (pos 3 ∷ []) ∷ node 0 (fill.Select branch) ∷ node 1 (fill.Leaf 0) ∷ [])
    (act_of action (Some 2) [] ∷ [])
    []

pub record SelectsAreTried : Type 0 where
  -- Word 1 of seed 1 is 319104231195455319, which leaves 7 at the 16 values of n: digit 12 is 3.
  pub word_one : word_of 1 1 ≡ 319104231195455319
  pub reads : read (model (branches None ∷ arms arm_of_three ∷ [])) 2 1 0 (0 ∷ 12 ∷ 0 ∷ 0 ∷ 0 ∷ []) ≡ Whole scenario
  pub options : places (model (branches None ∷ arms arm_of_three ∷ [])) 2 1 0 (0 ∷ 12 ∷ 0 ∷ 0 ∷ 0 ∷ []) ≡ Some 1 ∷ Some 16 ∷ Some 1 ∷ Some 1 ∷ Some 1 ∷ []
  pub reads_with_guard : read (model (branches (Some below_nine) ∷ arms arm_of_three ∷ [])) 2 1 0 (0 ∷ 12 ∷ 0 ∷ 0 ∷ 0 ∷ []) ≡ Whole scenario
  pub dead_without_arm : read (model (branches None ∷ arms NoArms ∷ [])) 2 1 0 (0 ∷ 12 ∷ 0 ∷ 0 ∷ []) ≡ Dead
  -- where n is 7 both branches stand, and where it is 3 but the second's guard fails none does
  pub two_at_seven : places (model (branches None ∷ [])) 2 1 0 (0 ∷ 0 ∷ 0 ∷ []) ≡ Some 1 ∷ Some 16 ∷ Some 2 ∷ []
  pub none_at_three : read (model (branches (Some above_five) ∷ [])) 2 1 0 (0 ∷ 12 ∷ []) ≡ Dead
  -- Word 2 of seed 1 is 2101115697694094752, which leaves 13 at the total weight 21, so the second branch stands first.
  pub word_two : word_of 1 2 ≡ 2101115697694094752
  pub weighted : weighted_start_of 1 2 (1 ∷ 20 ∷ []) ≡ 1
  pub second_first : read (model (both ∷ [])) 2 1 0 (0 ∷ 12 ∷ 0 ∷ 0 ∷ []) ≡ Whole (taken 1 1)
  pub first_second : read (model (both ∷ [])) 2 1 0 (0 ∷ 12 ∷ 1 ∷ 0 ∷ []) ≡ Whole (taken 0 0)
  pub no_third : read (model (both ∷ [])) 2 1 0 (0 ∷ 12 ∷ 2 ∷ 0 ∷ []) ≡ Dead
  pub no_choice_left : read (model (both ∷ [])) 2 1 0 (0 ∷ 12 ∷ 0 ∷ 0 ∷ 0 ∷ []) ≡ Dead
  -- the scenario is legal
  pub legal : Legal (model (branches None ∷ arms arm_of_three ∷ [])) 2 scenario
