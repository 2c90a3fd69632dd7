-- What an inline constraint names is among what its activity names.
use Rattle.std.proofs.Common.{◌≡◌, ℕ, zero, suc, List, [], map, true, false, Option, Some, None, sym, ap, ◌∙◌, subst}
use Rattle.std.specs.Prelude.{slice_get, flat_map}
use Rattle.std.specs.Option.{option_map, unwrap_or}
use Rattle.std.proofs.lemmas.Option.{none-some, same_Some, slice_get-map, option_and_then_some}
use Rattle.pst_model.specs.ActivityTree.{StepTree, Sequence, Parallel, Schedule, Joined, Select, If, Match, StepRow, NoSteps, MoreSteps, BranchRow, NoBranches, MoreBranches, BranchTree, MakeBranch, ArmRow, NoArms, MoreArms, ArmTree, MakeArm, MaybeStep, NoStep, SomeStep, ActivityTree, steps_of, branches_of, arms_of, step_of, branch_step, arm_step}
use Rattle.pst_model.specs.ModelTree.{ModelTree, ActionTree, ContentTree, Atomic, Compound}
use Rattle.pst_scen.specs.declared.tree.Node.{Node}
use Rattle.pst_scen.specs.declared.tree.Fill.{Fill}
use Rattle.pst_scen.specs.declared.tree.Fill.TheVariants as fill
use Rattle.pst_legal.specs.Types.{type_of, activity_in}
use Rattle.pst_legal.specs.Statements.{step_below, StandsFor, AtTop, Below, InTurn}
use Rattle.pst_built.proofs.Members.{In, in_get, to_left, to_right, to_flat_map}
use Rattle.pst_new_refusals.specs.Named.{named_in, named_in_steps, named_in_branches, named_in_branch, named_in_arms, named_in_arm, named_in_maybe, named_in_content, named_of}
use Rattle.pst_new_refusals.specs.Settled.{names_in, names_at}

module _ (handle : ℕ) where
  abbrev Names : StepTree → Type 0
  Names step = In handle (named_in step)

  in_row : (steps : StepRow) (k : ℕ) (step : StepTree) → slice_get (steps_of steps) k ≡ Some step → Names step → In handle (named_in_steps steps)
  in_row NoSteps k step is has = absurd (none-some step is)
  in_row (MoreSteps first steps) zero step is has = to_left (named_in first) (named_in_steps steps) handle (subst Names (sym (same_Some first step is)) has)
  in_row (MoreSteps first steps) (suc k) step is has = to_right (named_in first) (named_in_steps steps) handle (in_row steps k step is has)

  in_branch : (branch : BranchTree) → Names (branch_step branch) → In handle (named_in_branch branch)
  in_branch (MakeBranch guard weight step) has = has

  in_branches : (branches : BranchRow) (k : ℕ) (step : StepTree) → option_map branch_step (slice_get (branches_of branches) k) ≡ Some step → Names step → In handle (named_in_branches branches)
  in_branches NoBranches k step is has = absurd (none-some step is)
  in_branches (MoreBranches branch more) zero step is has =
      to_left (named_in_branch branch) (named_in_branches more) handle (in_branch branch (subst Names (sym (same_Some (branch_step branch) step is)) has))
  in_branches (MoreBranches branch more) (suc k) step is has = to_right (named_in_branch branch) (named_in_branches more) handle (in_branches more k step is has)

  in_arm : (arm : ArmTree) → Names (arm_step arm) → In handle (named_in_arm arm)
  in_arm (MakeArm spans step) has = has

  in_arms : (arms : ArmRow) (k : ℕ) (step : StepTree) → option_map arm_step (slice_get (arms_of arms) k) ≡ Some step → Names step → In handle (named_in_arms arms)
  in_arms NoArms k step is has = absurd (none-some step is)
  in_arms (MoreArms arm arms) zero step is has = to_left (named_in_arm arm) (named_in_arms arms) handle (in_arm arm (subst Names (sym (same_Some (arm_step arm) step is)) has))
  in_arms (MoreArms arm arms) (suc k) step is has = to_right (named_in_arm arm) (named_in_arms arms) handle (in_arms arms k step is has)

  in_maybe : (maybe : MaybeStep) (step : StepTree) → step_of maybe ≡ Some step → Names step → In handle (named_in_maybe maybe)
  in_maybe NoStep step is has = absurd (none-some step is)
  in_maybe (SomeStep inner) step is has = subst Names (sym (same_Some inner step is)) has

  -- a statement names what its parts name
  named_above : (f : Fill) (above : StepTree) (index : ℕ) (step : StepTree) → step_below f above index ≡ Some step → Names step → Names above
  named_above fill.Sequence (Sequence steps) index step is has = in_row steps index step is has
  named_above fill.Parallel (Parallel steps) index step is has = in_row steps index step is has
  named_above fill.Schedule (Schedule steps) index step is has = in_row steps index step is has
  named_above (fill.Joined _ _) (Joined parallel join steps) index step is has = in_row steps index step is has
  named_above (fill.Select branch) (Select branches) index step is has = in_branches branches branch step is has
  named_above (fill.If true) (If condition holds fails) index step is has = to_left (named_in holds) (named_in_maybe fails) handle (subst Names (sym (same_Some holds step is)) has)
  named_above (fill.If false) (If condition holds fails) index step is has = to_right (named_in holds) (named_in_maybe fails) handle (in_maybe fails step is has)
  named_above (fill.Match (Some arm)) (Match value arms other) index step is has = to_left (named_in_arms arms) (named_in_maybe other) handle (in_arms arms arm step is has)
  named_above (fill.Match None) (Match value arms other) index step is has = to_right (named_in_arms arms) (named_in_maybe other) handle (in_maybe other step is has)
  named_above _ _ index step is has = absurd (none-some step is)

  in_content : (content : ContentTree) (activity : ActivityTree) → activity_in content ≡ Some activity → In handle (flat_map named_in activity.steps) → In handle (named_in_content content)
  in_content (Atomic body) activity e has = absurd (none-some activity e)
  in_content (Compound own) activity e has = subst (λ (a : ActivityTree). In handle (flat_map named_in a.steps)) (sym (same_Some own activity e)) has

  module _ (m : ModelTree) (named : List (List ℕ)) (all : named ≡ map named_of m.actions) (nodes : List Node) (top : ℕ) where
    of_type : (action : ℕ) (type : ActionTree) → type_of m action ≡ Some type → unwrap_or (slice_get named action) [] ≡ named_of type
    of_type action type typed =
        ap (λ (o : Option (List ℕ)). unwrap_or o []) (ap (λ (xs : List (List ℕ)). slice_get xs action) all ∙ slice_get-map named_of m.actions action ∙ ap (option_map named_of) typed)

    -- the type of the action round a statement names what the statement names
    pub named_round : {n : ℕ} {step : StepTree} {indices : List ℕ} → StandsFor m nodes top n step indices → Names step → In handle (names_at named (slice_get nodes top))
    named_round (AtTop n index action instance fields activity node step is leaf has branch at) names =
        option_and_then_some (λ (t : ActionTree). activity_in t.content) (type_of m action) activity has
        (λ type typed of.
        subst (In handle) (sym (ap (names_at named) is ∙ ap (names_in named) leaf ∙ of_type action type typed))
        (in_content type.content activity of (to_flat_map named_in activity.steps step handle (in_get activity.steps index step at) names)))
    named_round (Below n parent index node above step indices over is branch at) names = named_round over (named_above node.fill above index step at names)
    named_round (InTurn n turn parent index node count body round over in_parent is of in_it) names = named_round over names
