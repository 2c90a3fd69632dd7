-- In a sound model the pieces that are read are of sound activities.
use Rattle.std.proofs.Common.{◌≡◌, ℕ, zero, suc, ◌+◌, ℤ, pos, negsuc, List, [], ◌∷◌, ◌++◌, length, Bool, true, false, nat_lt, nat_le, Option, Some, None, refl, sym, ◌∙◌, subst, inl, inr}
use Rattle.std.specs.Prelude.{slice_get}
use Rattle.std.specs.List.{enumerate_from, find}
use Rattle.std.proofs.lemmas.Option.{none-some, same_Some}
use Rattle.pst_expr.specs.Value.{is_false}
use Rattle.pst_model.specs.declared.activity.Join.{Join}
use Rattle.pst_model.specs.declared.activity.Join.TheVariants.{Fixed, Choose}
use Rattle.pst_model.specs.ActivityTree.{StepTree, Traverse, Sequence, Parallel, Schedule, Joined, Select, Repeat, If, Match, BranchTree, MakeBranch, ArmTree, MakeArm, StepRow, NoSteps, MoreSteps, BranchRow, NoBranches, MoreBranches, ArmRow, NoArms, MoreArms, MaybeStep, NoStep, SomeStep, steps_of, branches_of, arms_of, step_of, guard_of, branch_step, arm_step}
use Rattle.pst_model.specs.ModelTree.{ModelTree, ActionTree, ContentTree, Atomic, Compound}
use Rattle.pst_model.specs.Served.{IsAtomic}
use Rattle.pst_model.specs.SoundActivity.{EachStep, EachOfSteps, EachOfBranches, EachOfArms, EachOfMaybe, IsTraversed, IsSoundStep}
use Rattle.pst_model.specs.Sound.{IsSoundContent, IsSoundAction, IsSound}
use Rattle.pst_scen.specs.declared.tree.Fill.TheVariants as fill
use Rattle.pst_legal.specs.Types.{type_of, action_instances}
use Rattle.pst_legal.specs.Growing.{Look, Inner, Leaf}
use Rattle.pst_legal.specs.Pieces.{Context, Piece, Action, Statement, Turning, in_turn, value_in, holds_in, statements, optional, turns, mask}
use Rattle.pst_legal.specs.Menus.{Menu, plain, content_menu, instance_menu, action_menu, join_menu, block_menu, available, branch_menu, repeat_menu, if_menu, is_in_arm, arm_menu, match_menu, statement_menu, menu}
use Rattle.pst_built.proofs.Members.{In, in_get, in_map, in_filter, in_find, in_numbered}
use Rattle.pst_built.proofs.Ways.{OfWay, Ways, ways_if}
use Rattle.pst_built.proofs.SoundActs.{all_get, all_in, some_and, IsConcrete}

-- a step of a sound activity
pub record IsSoundBelow (m : ModelTree) (step : StepTree) : Type 0 where
  pub action : ActionTree
  pub handles : List ℕ
  pub levels : ℕ
  pub each : EachStep (IsSoundStep m action handles) levels step

-- no abstract action, and steps of sound activities
abbrev pub IsSoundPiece : ModelTree → Piece → Type 0
IsSoundPiece m (Action action top) = (type : ActionTree) → type_of m action ≡ Some type → type.is_abstract ≡ false
IsSoundPiece m (Statement c step) = IsSoundBelow m step
IsSoundPiece m (Turning c index body) = IsSoundBelow m body

abbrev pub AreSound : ModelTree → List Piece → Type 0
AreSound m pieces = (piece : Piece) → In piece pieces → IsSoundPiece m piece

abbrev pub IsSoundLook : ModelTree → Look → Type 0
IsSoundLook m (Inner fill) = Unit {0}
IsSoundLook m (Leaf action instance) = IsConcrete m action instance

-- a leaf is of a concrete action, and what stands below is sound
abbrev pub IsSoundWay : ModelTree → OfWay
IsSoundWay m look fields below = IsSoundLook m look × ((values : List ℤ) → AreSound m (below values))

-- ---- the parts of a step

below_steps : (P : ℕ → StepTree → Type 0) (levels : ℕ) (row : StepRow) (step : StepTree) → EachOfSteps P levels row → In step (steps_of row) → EachStep P levels step
below_steps P levels NoSteps step each has = absurd has
below_steps P levels (MoreSteps head tail) step each (inl e) = subst (EachStep P levels) e each.0
below_steps P levels (MoreSteps head tail) step each (inr has) = below_steps P levels tail step each.1 has

below_branches : (P : ℕ → StepTree → Type 0) (levels : ℕ) (row : BranchRow) (branch : BranchTree) → EachOfBranches P levels row → In branch (branches_of row) → EachStep P levels (branch_step branch)
below_branches P levels NoBranches branch each has = absurd has
below_branches P levels (MoreBranches (MakeBranch guard weight step) tail) branch each (inl e) = subst (λ b. EachStep P levels (branch_step b)) e each.0
below_branches P levels (MoreBranches (MakeBranch guard weight step) tail) branch each (inr has) = below_branches P levels tail branch each.1 has

below_arms : (P : ℕ → StepTree → Type 0) (levels : ℕ) (row : ArmRow) (arm : ArmTree) → EachOfArms P levels row → In arm (arms_of row) → EachStep P levels (arm_step arm)
below_arms P levels NoArms arm each has = absurd has
below_arms P levels (MoreArms (MakeArm spans step) tail) arm each (inl e) = subst (λ b. EachStep P levels (arm_step b)) e each.0
below_arms P levels (MoreArms (MakeArm spans step) tail) arm each (inr has) = below_arms P levels tail arm each.1 has

below_maybe : (P : ℕ → StepTree → Type 0) (levels : ℕ) (maybe : MaybeStep) (step : StepTree) → EachOfMaybe P levels maybe → step_of maybe ≡ Some step → EachStep P levels step
below_maybe P levels NoStep step each e = absurd (none-some step e)
below_maybe P levels (SomeStep other) step each e = subst (EachStep P levels) (same_Some other step e) each

module _ (m : ModelTree) (sound : IsSound m) where
  abbrev Q : OfWay
  Q = IsSoundWay m

  one_piece : (piece : Piece) → IsSoundPiece m piece → AreSound m (piece ∷ [])
  one_piece piece is other (inl e) = subst (IsSoundPiece m) e is
  one_piece piece is other (inr none) = absurd none

  statements_sound : (c : Context) (steps : List StepTree) → ((step : StepTree) → In step steps → IsSoundBelow m step) → AreSound m (statements c steps)
  statements_sound c steps each piece has = let i = in_map (Statement c) steps piece has in subst (IsSoundPiece m) i.2 (each i.0 i.1)

  turns_sound : (c : Context) (body : StepTree) (index n : ℕ) → IsSoundBelow m body → AreSound m (turns c body index n)
  turns_sound c body index zero is piece has = absurd has
  turns_sound c body index (suc n) is piece (inl e) = subst (IsSoundPiece m) e is
  turns_sound c body index (suc n) is piece (inr has) = turns_sound c body (index + 1) n is piece has

  optional_sound : (c : Context) (step : Option StepTree) → ((k : StepTree) → step ≡ Some k → IsSoundBelow m k) → AreSound m (optional c step)
  optional_sound c None each piece has = absurd has
  optional_sound c (Some step) each piece has = one_piece (Statement c step) (each step refl) piece has

  -- ---- actions

  module _ (action : ℕ) (type : ActionTree) (is : type_of m action ≡ Some type) (concrete : type.is_abstract ≡ false) (top : Option ℕ) where
    by_content : (instance : ℕ) → In instance (action_instances m (Some type) top) → (content : ContentTree) → type.content ≡ content → IsSoundContent m type content
        → Ways Q (content_menu type content action instance)
    by_content instance inside (Atomic body) e content =
        (record { type = type; is = is; atomic = subst IsAtomic (sym e) tt; concrete = concrete; top = top; inside = inside }, λ values piece has. absurd has)
    by_content instance inside (Compound activity) e content = (
      tt,
      λ values. statements_sound (record { instance = instance; fields = values; indices = [] }) activity.steps
          (λ step has. record {
            action = type;
            handles = activity.handles;
            levels = 0;
            each = all_in (EachStep (IsSoundStep m type activity.handles) 0) activity.steps step content.1.steps has;
          }),
    )

    by_instance : (instance : Option ℕ) → ((k : ℕ) → instance ≡ Some k → In k (action_instances m (Some type) top)) → Ways Q (instance_menu type action instance)
    by_instance None inside = tt
    by_instance (Some instance) inside =
        by_content instance (inside instance refl) type.content refl (all_get (IsSoundAction m) m.actions action type sound.actions is).content

  action_sound : (action : ℕ) (top : Option ℕ) (type : Option ActionTree) → type_of m action ≡ type → ((t : ActionTree) → type ≡ Some t → t.is_abstract ≡ false) → Ways Q (action_menu m action top type)
  action_sound action top None is concrete = tt
  action_sound action top (Some type) is concrete =
      λ k. by_instance action type is (concrete type refl) top (slice_get (action_instances m (Some type) top) k) (λ instance e. in_get (action_instances m (Some type) top) k instance e)

  -- ---- statements

  join_sound : (after : List Bool → Menu) → ((joined : List Bool) → Ways Q (after joined)) → (n branches : ℕ) (joined : List Bool) → Ways Q (join_menu after n branches joined)
  join_sound after each n zero joined = each joined
  join_sound after each zero (suc branches) joined = λ k. join_sound after each zero branches (joined ++ false ∷ [])
  join_sound after each (suc n) (suc branches) joined =
      ways_if Q (nat_le (suc n) branches) _ _
      (λ k. ways_if Q (nat_lt k 1) _ _ (join_sound after each n branches (joined ++ true ∷ [])) (join_sound after each (suc n) branches (joined ++ false ∷ [])))
      (λ k. join_sound after each n branches (joined ++ true ∷ []))

  block_sound : (c : Context) (parallel : Bool) (join : Join) (steps : List StepTree) → AreSound m (statements c steps) → Ways Q (block_menu c parallel join steps)
  block_sound c parallel (Fixed named) steps each = (tt, λ values. each)
  block_sound c parallel (Choose n) steps each =
      ways_if Q (nat_le n (length steps)) _ _
      (join_sound (λ joined. plain (fill.Joined parallel (mask joined)) (statements c steps)) (λ joined. (tt, λ values. each)) n (length steps) []) tt

  branch_sound : (c : Context) (e : Option (ℕ × BranchTree)) → ((b : ℕ × BranchTree) → e ≡ Some b → IsSoundBelow m (branch_step b.1)) → Ways Q (branch_menu c e)
  branch_sound c None each = tt
  branch_sound c (Some e) each = (tt, λ values. one_piece (Statement c (branch_step e.1)) (each e refl))

  repeat_sound : (c : Context) (body : StepTree) (count : Option ℤ) → IsSoundBelow m body → Ways Q (repeat_menu c body count)
  repeat_sound c body None is = tt
  repeat_sound c body (Some (pos n)) is = (tt, λ values. turns_sound c body 0 n is)
  repeat_sound c body (Some (negsuc n)) is = tt

  if_sound : (c : Context) (holds : StepTree) (fails : Option StepTree) (v : Option ℤ) → IsSoundBelow m holds → ((k : StepTree) → fails ≡ Some k → IsSoundBelow m k) → Ways Q (if_menu c holds fails v)
  if_sound c holds fails None is each = tt
  if_sound c holds fails (Some v) is each = ways_if Q (is_false v) _ _ (tt, λ values. optional_sound c fails each) (tt, λ values. one_piece (Statement c holds) is)

  arm_sound : (c : Context) (other : Option StepTree) (e : Option (ℕ × ArmTree)) → ((k : StepTree) → other ≡ Some k → IsSoundBelow m k) → ((a : ℕ × ArmTree) → e ≡ Some a → IsSoundBelow m (arm_step a.1))
      → Ways Q (arm_menu c other e)
  arm_sound c None None default each = tt
  arm_sound c (Some step) None default each = (tt, λ values. one_piece (Statement c step) (default step refl))
  arm_sound c other (Some e) default each = (tt, λ values. one_piece (Statement c (arm_step e.1)) (each e refl))

  match_sound : (c : Context) (arms : List ArmTree) (other : Option StepTree) (v : Option ℤ) → ((k : StepTree) → other ≡ Some k → IsSoundBelow m k) → ((a : ArmTree) → In a arms → IsSoundBelow m (arm_step a))
      → Ways Q (match_menu c arms other v)
  match_sound c arms other None default each = tt
  match_sound c arms other (Some v) default each =
      arm_sound c other (find (is_in_arm v) (enumerate_from 0 arms)) default
      (λ a e. each a.1 (in_get arms a.0 a.1 (in_numbered arms a (in_find (is_in_arm v) (enumerate_from 0 arms) a e).0)))

  module _ (c : Context) (action : ActionTree) (handles : List ℕ) (levels : ℕ) where
    abbrev P : ℕ → StepTree → Type 0
    P = IsSoundStep m action handles

    below : (n : ℕ) (step : StepTree) → EachStep P n step → IsSoundBelow m step
    below n step each = record { action = action; handles = handles; levels = n; each = each }

    row_sound : (row : StepRow) → EachOfSteps P levels row → AreSound m (statements c (steps_of row))
    row_sound row each = statements_sound c (steps_of row) (λ step has. below levels step (below_steps P levels row step each has))

    maybe_sound : (maybe : MaybeStep) → EachOfMaybe P levels maybe → (k : StepTree) → step_of maybe ≡ Some k → IsSoundBelow m k
    maybe_sound maybe each k e = below levels k (below_maybe P levels maybe k each e)

    step_sound : (step : StepTree) → EachStep P levels step → Ways Q (statement_menu m c step)
    step_sound (Traverse traversed handle inline) each =
        let t = some_and (slice_get m.actions traversed) (IsTraversed m action levels inline) each.1 in
        action_sound traversed (Some c.instance) (type_of m traversed) refl
        (λ type e. subst (λ (v : ActionTree). v.is_abstract ≡ false) (same_Some t.0 type (sym t.1 ∙ e)) t.2.concrete)
    step_sound (Sequence steps) each = (tt, λ values. row_sound steps each.1)
    step_sound (Parallel steps) each = (tt, λ values. row_sound steps each.1)
    step_sound (Schedule steps) each = (tt, λ values. row_sound steps each.1)
    step_sound (Joined parallel join steps) each = block_sound c parallel join (steps_of steps) (row_sound steps each.1)
    step_sound (Select branches) each =
        λ k. branch_sound c (slice_get (available c (branches_of branches)) k)
        (λ b e. let f = in_filter (λ (x : ℕ × BranchTree). holds_in c (guard_of x.1)) (enumerate_from 0 (branches_of branches)) b (in_get (available c (branches_of branches)) k b e) in
        below levels (branch_step b.1) (below_branches P levels branches b.1 each.1 (in_get (branches_of branches) b.0 b.1 (in_numbered (branches_of branches) b f.0))))
    step_sound (Repeat count body) each = repeat_sound c body (value_in c count) (below (levels + 1) body each.1)
    step_sound (If condition holds fails) each = if_sound c holds (step_of fails) (value_in c condition) (below levels holds each.1) (maybe_sound fails each.2)
    step_sound (Match matched arms other) each =
        match_sound c (arms_of arms) (step_of other) (value_in c matched) (maybe_sound other each.2) (λ a has. below levels (arm_step a) (below_arms P levels arms a each.1 has))

  pub menu_sound : (piece : Piece) → IsSoundPiece m piece → Ways Q (menu m piece)
  menu_sound (Action action top) is = action_sound action top (type_of m action) refl is
  menu_sound (Statement c step) is = step_sound c is.action is.handles is.levels step is.each
  menu_sound (Turning c index body) is = (tt, λ values. one_piece (Statement (in_turn c index) body) is)
