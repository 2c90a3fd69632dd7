-- The statements of a sound model's activities are sound.
use Rattle.std.proofs.Common.{◌≡◌, ℕ, zero, suc, ◌+◌, List, true, false, Some, None, ap, subst}
use Rattle.std.specs.Prelude.{slice_get}
use Rattle.std.specs.Option.{option_map}
use Rattle.std.proofs.lemmas.Option.{none-some, same_Some, option_and_then_some}
use Rattle.pst_model.specs.ActivityTree.{StepTree, Sequence, Parallel, Schedule, Joined, Select, If, Match, StepRow, NoSteps, MoreSteps, BranchRow, NoBranches, MoreBranches, BranchTree, MakeBranch, ArmRow, NoArms, MoreArms, ArmTree, MakeArm, MaybeStep, NoStep, SomeStep, ActivityTree, steps_of, branches_of, arms_of, step_of, branch_step, arm_step}
use Rattle.pst_model.specs.ModelTree.{ModelTree, ActionTree, ContentTree, Atomic, Compound}
use Rattle.pst_model.specs.SoundActivity.{EachStep, EachOfSteps, EachOfBranches, EachOfBranch, EachOfArms, EachOfArm, EachOfMaybe, IsSoundStep}
use Rattle.pst_model.specs.Sound.{IsSoundContent, IsSoundAction, IsSound}
use Rattle.pst_scen.specs.declared.tree.Node.{Node}
use Rattle.pst_scen.specs.declared.tree.Fill.{Fill}
use Rattle.pst_scen.specs.declared.tree.Fill.TheVariants as fill
use Rattle.pst_legal.specs.Types.{type_of, activity_in}
use Rattle.pst_legal.specs.Statements.{step_below, StandsFor, AtTop, Below, InTurn}
use Rattle.pst_built.proofs.SoundActs.{all_get}

module _ (P : ℕ → StepTree → Type 0) (levels : ℕ) where
  of_row : (steps : StepRow) (k : ℕ) (step : StepTree) → EachOfSteps P levels steps → slice_get (steps_of steps) k ≡ Some step → EachStep P levels step
  of_row NoSteps k step each is = absurd (none-some step is)
  of_row (MoreSteps first steps) zero step each is = subst (EachStep P levels) (same_Some first step is) each.0
  of_row (MoreSteps first steps) (suc k) step each is = of_row steps k step each.1 is

  of_branch : (branch : BranchTree) → EachOfBranch P levels branch → EachStep P levels (branch_step branch)
  of_branch (MakeBranch guard weight step) each = each

  of_branches : (branches : BranchRow) (k : ℕ) (step : StepTree) → EachOfBranches P levels branches → option_map branch_step (slice_get (branches_of branches) k) ≡ Some step → EachStep P levels step
  of_branches NoBranches k step each is = absurd (none-some step is)
  of_branches (MoreBranches branch more) zero step each is = subst (EachStep P levels) (same_Some (branch_step branch) step is) (of_branch branch each.0)
  of_branches (MoreBranches branch more) (suc k) step each is = of_branches more k step each.1 is

  of_arm : (arm : ArmTree) → EachOfArm P levels arm → EachStep P levels (arm_step arm)
  of_arm (MakeArm spans step) each = each

  of_arms : (arms : ArmRow) (k : ℕ) (step : StepTree) → EachOfArms P levels arms → option_map arm_step (slice_get (arms_of arms) k) ≡ Some step → EachStep P levels step
  of_arms NoArms k step each is = absurd (none-some step is)
  of_arms (MoreArms arm arms) zero step each is = subst (EachStep P levels) (same_Some (arm_step arm) step is) (of_arm arm each.0)
  of_arms (MoreArms arm arms) (suc k) step each is = of_arms arms k step each.1 is

  of_maybe : (maybe : MaybeStep) (step : StepTree) → EachOfMaybe P levels maybe → step_of maybe ≡ Some step → EachStep P levels step
  of_maybe NoStep step each is = absurd (none-some step is)
  of_maybe (SomeStep inner) step each is = subst (EachStep P levels) (same_Some inner step is) each

  each_below : (f : Fill) (above : StepTree) (index : ℕ) (step : StepTree) → EachStep P levels above → step_below f above index ≡ Some step → EachStep P levels step
  each_below fill.Sequence (Sequence steps) index step each is = of_row steps index step each.1 is
  each_below fill.Parallel (Parallel steps) index step each is = of_row steps index step each.1 is
  each_below fill.Schedule (Schedule steps) index step each is = of_row steps index step each.1 is
  each_below (fill.Joined _ _) (Joined parallel join steps) index step each is = of_row steps index step each.1 is
  each_below (fill.Select branch) (Select branches) index step each is = of_branches branches branch step each.1 is
  each_below (fill.If true) (If condition holds fails) index step each is = subst (EachStep P levels) (same_Some holds step is) each.1
  each_below (fill.If false) (If condition holds fails) index step each is = of_maybe fails step each.2 is
  each_below (fill.Match (Some arm)) (Match matched arms other) index step each is = of_arms arms arm step each.1 is
  each_below (fill.Match None) (Match matched arms other) index step each is = of_maybe other step each.2 is
  each_below _ _ index step each is = absurd (none-some step is)

pub its_content : (content : ContentTree) (activity : ActivityTree) → activity_in content ≡ Some activity → content ≡ Compound activity
its_content (Atomic body) activity e = absurd (none-some activity e)
its_content (Compound own) activity e = ap Compound (same_Some own activity e)

-- the statement is one of the activity of the compound action of node `top`, and sound there
pub record IsSoundIn (m : ModelTree) (nodes : List Node) (top : ℕ) (step : StepTree) : Type 0 where
  pub node : Node
  pub is_node : slice_get nodes top ≡ Some node
  pub action : ℕ
  pub instance : ℕ
  pub fields : List _
  pub filled : node.fill ≡ fill.Compound action instance fields
  pub type : ActionTree
  pub is : type_of m action ≡ Some type
  pub activity : ActivityTree
  pub levels : ℕ
  pub each : EachStep (IsSoundStep m type activity.handles) levels step

pub sound_in : (m : ModelTree) (nodes : List Node) → IsSound m → (top : ℕ) {n : ℕ} {step : StepTree} {indices : List ℕ} → StandsFor m nodes top n step indices → IsSoundIn m nodes top step
sound_in m nodes sound top (AtTop n index action instance fields activity node step is leaf has branch at) =
    option_and_then_some (λ (t : ActionTree). activity_in t.content) (type_of m action) activity has
    (λ type typed of.
    let content = its_content type.content activity of in
    let whole = all_get (IsSoundAction m) m.actions action type sound.actions typed in
    let parts = subst (IsSoundContent m type) content whole.content in
    record {
      node = node;
      is_node = is;
      action = action;
      instance = instance;
      fields = fields;
      filled = leaf;
      type = type;
      is = typed;
      activity = activity;
      levels = 0;
      each = all_get (EachStep (IsSoundStep m type activity.handles) 0) activity.steps index step parts.1.steps at;
    })
sound_in m nodes sound top (Below n parent index node above step indices over is branch at) =
    let it = sound_in m nodes sound top over in
    record {
      node = it.node;
      is_node = it.is_node;
      action = it.action;
      instance = it.instance;
      fields = it.fields;
      filled = it.filled;
      type = it.type;
      is = it.is;
      activity = it.activity;
      levels = it.levels;
      each = each_below (IsSoundStep m it.type it.activity.handles) it.levels node.fill above index step it.each at;
    }
sound_in m nodes sound top (InTurn n turn parent index node count body round over in_parent is of in_it) =
    let it = sound_in m nodes sound top over in
    record {
      node = it.node;
      is_node = it.is_node;
      action = it.action;
      instance = it.instance;
      fields = it.fields;
      filled = it.filled;
      type = it.type;
      is = it.is;
      activity = it.activity;
      levels = it.levels + 1;
      each = it.each.1;
    }
