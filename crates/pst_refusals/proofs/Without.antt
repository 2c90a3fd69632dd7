-- Where no step of the model's activities has an inline constraint, no statement has one.
use Rattle.std.proofs.Common.{◌≡◌, ℕ, zero, suc, ◌≤◌, List, [], ◌∷◌, ◌++◌, map, length, append-nil, Bool, true, false, Contains, Option, Some, None, refl, ap, ◌∙◌, subst, arith}
use Rattle.std.specs.Prelude.{slice_get, flat_map}
use Rattle.std.specs.List.{list_any}
use Rattle.std.specs.Option.{option_map}
use Rattle.std.proofs.lemmas.Option.{none-some, same_Some, option_and_then_some}
use Rattle.std.proofs.lemmas.Bool.{or_parts, ltb-false}
use Rattle.pst_model.specs.ConstraintTree.{ConstraintTree}
use Rattle.pst_model.specs.ActivityTree.{StepTree, Traverse, Sequence, Parallel, Schedule, Joined, Select, Repeat, If, Match, StepRow, NoSteps, MoreSteps, BranchRow, NoBranches, MoreBranches, BranchTree, MakeBranch, ArmRow, NoArms, MoreArms, ArmTree, MakeArm, MaybeStep, NoStep, SomeStep, ActivityTree, steps_of, branches_of, arms_of, step_of, branch_step, arm_step}
use Rattle.pst_model.specs.ModelTree.{ModelTree, ActionTree, ContentTree, Atomic, Compound}
use Rattle.pst_scen.specs.declared.tree.Node.{Node}
use Rattle.pst_scen.specs.declared.tree.Fill.{Fill}
use Rattle.pst_scen.specs.declared.tree.Fill.TheVariants as fill
use Rattle.pst_legal.specs.Types.{type_of, activity_in}
use Rattle.pst_legal.specs.Statements.{step_below, StandsFor, AtTop, Below, InTurn}
use Rattle.pst_scen.specs.declared.scenario.Scenario.{Scenario}
use Rattle.pst_legal.specs.Slots.{inline_slot}
use Rattle.pst_built.proofs.Members.{in_get, none_any}
use Rattle.pst_slots.specs.Stated.{Stated, statement_of}
use Rattle.pst_slots.specs.Listed.{stating, of_fill, of_step, of_stated, of_node}
use Rattle.pst_slots.proofs.Found.{found}
use Rattle.pst_refusals.specs.Failing.{of_numbered}
use Rattle.pst_refusals.specs.declared.inlines.Sought.{Sought}
use Rattle.pst_refusals.specs.declared.inlines.Sought.TheVariants as sought
use Rattle.pst_refusals.specs.Inlines.{has_inline, steps_have, branches_have, branch_has, arms_have, arm_has, maybe_has, content_has, type_has, has_inlines}

module _ (which : Sought) where
  abbrev pub HasNone : StepTree → Type 0
  HasNone step = has_inline which step ≡ false

  in_row : (steps : StepRow) (k : ℕ) (step : StepTree) → steps_have which steps ≡ false → slice_get (steps_of steps) k ≡ Some step → HasNone step
  in_row NoSteps k step none is = absurd (none-some step is)
  in_row (MoreSteps first steps) zero step none is = subst HasNone (same_Some first step is) (or_parts (has_inline which first) (steps_have which steps) none).0
  in_row (MoreSteps first steps) (suc k) step none is = in_row steps k step (or_parts (has_inline which first) (steps_have which steps) none).1 is

  in_branch : (branch : BranchTree) → branch_has which branch ≡ false → HasNone (branch_step branch)
  in_branch (MakeBranch guard weight step) none = none

  in_branches : (branches : BranchRow) (k : ℕ) (step : StepTree) → branches_have which branches ≡ false → option_map branch_step (slice_get (branches_of branches) k) ≡ Some step → HasNone step
  in_branches NoBranches k step none is = absurd (none-some step is)
  in_branches (MoreBranches branch more) zero step none is = subst HasNone (same_Some (branch_step branch) step is) (in_branch branch (or_parts (branch_has which branch) (branches_have which more) none).0)
  in_branches (MoreBranches branch more) (suc k) step none is = in_branches more k step (or_parts (branch_has which branch) (branches_have which more) none).1 is

  in_arm : (arm : ArmTree) → arm_has which arm ≡ false → HasNone (arm_step arm)
  in_arm (MakeArm spans step) none = none

  in_arms : (arms : ArmRow) (k : ℕ) (step : StepTree) → arms_have which arms ≡ false → option_map arm_step (slice_get (arms_of arms) k) ≡ Some step → HasNone step
  in_arms NoArms k step none is = absurd (none-some step is)
  in_arms (MoreArms arm arms) zero step none is = subst HasNone (same_Some (arm_step arm) step is) (in_arm arm (or_parts (arm_has which arm) (arms_have which arms) none).0)
  in_arms (MoreArms arm arms) (suc k) step none is = in_arms arms k step (or_parts (arm_has which arm) (arms_have which arms) none).1 is

  in_maybe : (maybe : MaybeStep) (step : StepTree) → maybe_has which maybe ≡ false → step_of maybe ≡ Some step → HasNone step
  in_maybe NoStep step none is = absurd (none-some step is)
  in_maybe (SomeStep inner) step none is = subst HasNone (same_Some inner step is) none

  none_below : (f : Fill) (above : StepTree) (index : ℕ) (step : StepTree) → HasNone above → step_below f above index ≡ Some step → HasNone step
  none_below fill.Sequence (Sequence steps) index step none is = in_row steps index step none is
  none_below fill.Parallel (Parallel steps) index step none is = in_row steps index step none is
  none_below fill.Schedule (Schedule steps) index step none is = in_row steps index step none is
  none_below (fill.Joined _ _) (Joined parallel join steps) index step none is = in_row steps index step none is
  none_below (fill.Select branch) (Select branches) index step none is = in_branches branches branch step none is
  none_below (fill.If true) (If condition holds fails) index step none is = subst HasNone (same_Some holds step is) (or_parts (has_inline which holds) (maybe_has which fails) none).0
  none_below (fill.If false) (If condition holds fails) index step none is = in_maybe fails step (or_parts (has_inline which holds) (maybe_has which fails) none).1 is
  none_below (fill.Match (Some arm)) (Match matched arms other) index step none is = in_arms arms arm step (or_parts (arms_have which arms) (maybe_has which other) none).0 is
  none_below (fill.Match None) (Match matched arms other) index step none is = in_maybe other step (or_parts (arms_have which arms) (maybe_has which other) none).1 is
  none_below _ _ index step none is = absurd (none-some step is)

  in_content : (content : ContentTree) (activity : ActivityTree) → activity_in content ≡ Some activity → content_has which content ≡ false → list_any (has_inline which) activity.steps ≡ false
  in_content (Atomic body) activity e none = absurd (none-some activity e)
  in_content (Compound own) activity e none = subst (λ (a : ActivityTree). list_any (has_inline which) a.steps ≡ false) (same_Some own activity e) none

-- no step of the model's activities has one
module _ (m : ModelTree) (which : Sought) (without : list_any (type_has which) m.actions ≡ false) where
  none_of : (action : ℕ) (type : ActionTree) → type_of m action ≡ Some type → content_has which type.content ≡ false
  none_of action type is = none_any (type_has which) m.actions type without (in_get m.actions action type is)

  pub none_stands : (nodes : List Node) (top : ℕ) {n : ℕ} {step : StepTree} {indices : List ℕ} → StandsFor m nodes top n step indices → HasNone which step
  none_stands nodes top (AtTop n index action instance fields activity node step is leaf has branch at) =
      option_and_then_some (λ (t : ActionTree). activity_in t.content) (type_of m action) activity has
      (λ type typed of. none_any (has_inline which) activity.steps step (in_content which type.content activity of (none_of action type typed)) (in_get activity.steps index step at))
  none_stands nodes top (Below n parent index node above step indices over is branch at) = none_below which node.fill above index step (none_stands nodes top over) at
  none_stands nodes top (InTurn n turn parent index node count body round over in_parent is of in_it) = none_stands nodes top over

module _ (m : ModelTree) (without : has_inlines m ≡ false) where
  -- so no statement has an inline constraint
  pub none_inline : (nodes : List Node) (top n action : ℕ) (handle : _) (inline : List ConstraintTree) (indices : List ℕ) (k : ConstraintTree) → StandsFor m nodes top n (Traverse action handle inline) indices → Contains inline k → ⊥
  none_inline nodes top n action handle inline indices k stands has =
      let none : length inline ≤ 0 = ltb-false 0 (length inline) (none_stands m sought.Any without nodes top stands) in
      omega (arith, none, has.1)

  -- nor has the one that is found from a node up
  pub none_found : (nodes : List Node) (n : ℕ) (x : Stated) (action : ℕ) (handle : _) (inline : List ConstraintTree) → statement_of m nodes n ≡ Some x → x.step ≡ Traverse action handle inline → inline ≡ []
  none_found nodes n x action handle inline is of =
      let stands : StandsFor m nodes x.top n (Traverse action handle inline) x.indices = subst (λ step. StandsFor m nodes x.top n step x.indices) of (found m nodes (length nodes) n x is) in
      is_empty inline (ltb-false 0 (length inline) (none_stands m sought.Any without nodes x.top stands))
    where
      is_empty : (ks : List ConstraintTree) → length ks ≤ 0 → ks ≡ []
      is_empty [] none = refl
      is_empty (k ∷ ks) none = absurd (omega (arith, none))

  -- so it has none in a scenario
  pub none_stated : (s : Scenario) (nodes : List Node) (n : ℕ) → of_stated m s n (statement_of m nodes n) ≡ []
  none_stated s nodes n = by (statement_of m nodes n) refl
    where
      by : (o : Option Stated) → statement_of m nodes n ≡ o → of_stated m s n o ≡ []
      by None is = refl
      by (Some x) is = at x.step refl
        where
          at : (step : StepTree) → x.step ≡ step → of_step m s n x.top x.indices step ≡ []
          at (Traverse action handle inline) of = ap (map (stating (inline_slot m s n x.top x.indices))) (none_found nodes n x action handle inline is of)
          at (Sequence steps) of = refl
          at (Parallel steps) of = refl
          at (Schedule steps) of = refl
          at (Joined parallel join steps) of = refl
          at (Select branches) of = refl
          at (Repeat count body) of = refl
          at (If condition holds fails) of = refl
          at (Match matched arms other) of = refl

  -- the constraints of nodes are those of compound actions
  pub fills_alone : (s : Scenario) (es : List (ℕ × Node)) → flat_map (of_node m s) es ≡ flat_map (of_numbered m s) es
  fills_alone s [] = refl
  fills_alone s (e ∷ es) =
      ap (λ xs. (of_fill m s e.0 e.1.fill ++ xs) ++ flat_map (of_node m s) es) (none_stated s s.nodes e.0)
      ∙ ap (λ xs. xs ++ flat_map (of_node m s) es) (append-nil (of_fill m s e.0 e.1.fill))
      ∙ ap (λ xs. of_fill m s e.0 e.1.fill ++ xs) (fills_alone s es)
