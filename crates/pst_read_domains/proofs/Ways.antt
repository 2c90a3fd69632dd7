-- Each way of a menu gives a node that may stand for its piece, and the pieces below it.
use Rattle.std.proofs.Common.{◌≡◌, ℕ, zero, suc, ◌+◌, ℤ, pos, negsuc, List, [], ◌∷◌, ◌++◌, length, Bool, true, false, nat_lt, nat_le, if◌then◌else◌, Option, Some, None, refl, sym, ap, ◌∙◌, subst, arith}
use Rattle.std.specs.Prelude.{slice_get}
use Rattle.std.specs.List.{enumerate_from, find}
use Rattle.std.specs.Option.{option_map, option_and_then}
use Rattle.std.proofs.lemmas.Option.{none-some, same_Some}
use Rattle.pst_expr.specs.Value.{is_false}
use Rattle.pst_model.specs.declared.activity.Join.{Join}
use Rattle.pst_model.specs.declared.activity.Join.TheVariants.{Fixed, Choose}
use Rattle.pst_model.specs.ConstraintTree.{ConstraintTree}
use Rattle.pst_model.specs.ActivityTree.{StepTree, Traverse, Sequence, Parallel, Schedule, Joined, Select, Repeat, If, Match, StepRow, BranchRow, ArmRow, MaybeStep, BranchTree, ArmTree, steps_of, branches_of, arms_of, step_of, guard_of, branch_step, arm_step}
use Rattle.pst_model.specs.ModelTree.{ModelTree, ActionTree, ContentTree, Atomic, Compound}
use Rattle.pst_scen.specs.declared.tree.Fill.{Fill}
use Rattle.pst_scen.specs.declared.tree.Fill.TheVariants as fill
use Rattle.pst_scen.specs.declared.act.Act.{Act}
use Rattle.pst_scen.specs.declared.scenario.Scenario.{Scenario}
use Rattle.pst_legal.specs.Types.{type_of, activity_in, action_activity, action_instances}
use Rattle.pst_legal.specs.Growing.{Look, Inner, Leaf}
use Rattle.pst_legal.specs.Pieces.{Context, Piece, Action, Statement, Turning, in_turn, value_in, holds_in, statements, optional, turns, mask}
use Rattle.pst_legal.specs.Menus.{Menu, Way, Place, Weighted, Closed, plain, content_menu, instance_menu, action_menu, join_menu, block_menu, available, branch_menu, repeat_menu, if_menu, is_in_arm, other_menu, arm_menu, match_menu, statement_menu, menu}
use Rattle.pst_built.proofs.Members.{in_get, in_find, in_filter, in_numbered}
use Rattle.pst_built.proofs.Menus.{look_with}
use Rattle.pst_built.specs.Known.{IsOf}
use Rattle.pst_read_domains.specs.Stood.{IsPiece, StepUnder, OfActivity, OfStatement, OfTurn, Under}

-- a node of that look may stand for the piece, and below it stand these
abbrev pub Fine : ModelTree → Piece → Look → List Piece → Type 0
Fine m piece (Inner f) below = ((s : Scenario) → IsPiece s piece f) × ((i : ℕ) (x : Piece) → slice_get below i ≡ Some x → Under m piece f i x)
Fine m piece (Leaf action instance) below =
    ((s : Scenario) (a : ℕ) (act : Act) → slice_get s.actions a ≡ Some act → act.action ≡ action → IsPiece s piece (fill.Leaf a)) × (below ≡ [])

-- so is each way of the menu, whatever the values of its fields are
abbrev pub Ways : ModelTree → Piece → Menu → Type 0
Ways m piece (Way look fields below) = (known : List ℤ) → Fine m piece (look_with look known) (below known)
Ways m piece (Place n after) = (k : ℕ) → Ways m piece (after k)
Ways m piece (Weighted weights after) = (k : ℕ) → Ways m piece (after k)
Ways m piece Closed = Unit {0}

-- ---- the pieces below

at_statement : (c : Context) (steps : List StepTree) (i : ℕ) (x : Piece) (m : ModelTree) (piece : Piece) (f : Fill) → ((step : StepTree) → slice_get steps i ≡ Some step → StepUnder m piece f i step)
    → slice_get (statements c steps) i ≡ Some x → Under m piece f i x
at_statement c [] i x m piece f each is = absurd (none-some x is)
at_statement c (step ∷ steps) zero x m piece f each is = subst (Under m piece f zero) (same_Some (Statement c step) x is) (each step refl)
at_statement c (step ∷ steps) (suc i) x m piece f each is = further steps i (λ s e. each s e) is
  where
    further : (steps : List StepTree) (j : ℕ) → ((s : StepTree) → slice_get steps j ≡ Some s → StepUnder m piece f (suc i) s) → slice_get (statements c steps) j ≡ Some x → Under m piece f (suc i) x
    further [] j each is = absurd (none-some x is)
    further (s ∷ more) zero each is = subst (Under m piece f (suc i)) (same_Some (Statement c s) x is) (each s refl)
    further (s ∷ more) (suc j) each is = further more j each is

at_one : (c : Context) (step : StepTree) (i : ℕ) (x : Piece) (m : ModelTree) (piece : Piece) (f : Fill) → StepUnder m piece f i step → slice_get (Statement c step ∷ []) i ≡ Some x → Under m piece f i x
at_one c step zero x m piece f under is = subst (Under m piece f zero) (same_Some (Statement c step) x is) under
at_one c step (suc i) x m piece f under is = absurd (none-some x is)

at_optional : (c : Context) (o : Option StepTree) (i : ℕ) (x : Piece) (m : ModelTree) (piece : Piece) (f : Fill) → ((step : StepTree) → o ≡ Some step → StepUnder m piece f i step) → slice_get (optional c o) i ≡ Some x → Under m piece f i x
at_optional c None i x m piece f each is = absurd (none-some x is)
at_optional c (Some step) i x m piece f each is = at_one c step i x m piece f (each step refl) is

zero_first : (i : ℕ) → 0 + i ≡ i
zero_first i = omega arith

turn_at : (c : Context) (body : StepTree) (first n i : ℕ) (x : Piece) → slice_get (turns c body first n) i ≡ Some x → x ≡ Turning c (first + i) body
turn_at c body first zero i x is = absurd (none-some x is)
turn_at c body first (suc n) zero x is = let e : first ≡ first + zero = omega arith in sym (same_Some (Turning c first body) x is) ∙ ap (λ k. Turning c k body) e
turn_at c body first (suc n) (suc i) x is = let e : (first + 1) + i ≡ first + suc i = omega arith in turn_at c body (first + 1) n i x is ∙ ap (λ k. Turning c k body) e

module _ (m : ModelTree) where
  -- ---- actions

  module _ (piece : Piece) (action : ℕ) (is_piece : (s : Scenario) (f : Fill) → IsOf s action f → IsPiece s piece f) where
    content_fine : (type : ActionTree) (content : ContentTree) (instance : ℕ) → type_of m action ≡ Some type → type.content ≡ content → Ways m piece (content_menu type content action instance)
    content_fine type (Atomic body) instance typed is = λ known. ((λ s a act at e. is_piece s (fill.Leaf a) (act, at, e)), refl)
    content_fine type (Compound activity) instance typed is = λ known.
        let active : action_activity m action ≡ Some activity = ap (option_and_then (λ (t : ActionTree). activity_in t.content)) typed ∙ ap activity_in is in (
          (λ s. is_piece s (fill.Compound action instance ([] ++ known)) refl),
          λ i x at. at_statement (record { instance = instance; fields = known; indices = [] }) activity.steps i x m piece (fill.Compound action instance ([] ++ known))
              (λ step has. OfActivity action activity refl active has) at,
        )

    instance_fine : (type : ActionTree) (o : Option ℕ) → type_of m action ≡ Some type → Ways m piece (instance_menu type action o)
    instance_fine type None typed = tt
    instance_fine type (Some instance) typed = content_fine type type.content instance typed refl

    pub action_fine : (top : Option ℕ) (o : Option ActionTree) → type_of m action ≡ o → Ways m piece (action_menu m action top o)
    action_fine top None typed = tt
    action_fine top (Some type) typed = λ k. instance_fine type (slice_get (action_instances m (Some type) top) k) typed

  -- ---- statements

  join_fine : (piece : Piece) (after : List Bool → Menu) → ((bits : List Bool) → Ways m piece (after bits)) → (n branches : ℕ) (joined : List Bool) → Ways m piece (join_menu after n branches joined)
  join_fine piece after each n zero joined = each joined
  join_fine piece after each zero (suc branches) joined = λ k. join_fine piece after each zero branches (joined ++ false ∷ [])
  join_fine piece after each (suc n) (suc branches) joined =
      by (join_fine piece after each n branches (joined ++ true ∷ [])) (join_fine piece after each (suc n) branches (joined ++ false ∷ [])) (nat_le (suc n) branches)
    where
      two : Ways m piece (join_menu after n branches (joined ++ true ∷ [])) → Ways m piece (join_menu after (suc n) branches (joined ++ false ∷ []))
          → (b : Bool) → Ways m piece (if b then join_menu after n branches (joined ++ true ∷ []) else join_menu after (suc n) branches (joined ++ false ∷ []))
      two next skip true = next
      two next skip false = skip

      by : Ways m piece (join_menu after n branches (joined ++ true ∷ [])) → Ways m piece (join_menu after (suc n) branches (joined ++ false ∷ []))
          → (b : Bool) → Ways m piece (if b then Place 2 (λ k. if nat_lt k 1 then join_menu after n branches (joined ++ true ∷ []) else join_menu after (suc n) branches (joined ++ false ∷ [])) else Place 1 (λ k. join_menu after n branches (joined ++ true ∷ [])))
      by next skip true = λ k. two next skip (nat_lt k 1)
      by next skip false = λ k. next

  joined_fine : (c : Context) (parallel : Bool) (join : Join) (rows : StepRow) (joined : ℕ) → Ways m (Statement c (Joined parallel join rows)) (plain (fill.Joined parallel joined) (statements c (steps_of rows)))
  joined_fine c parallel join rows joined = λ known.
      ((λ s. (joined, refl)), λ i x at. at_statement c (steps_of rows) i x m (Statement c (Joined parallel join rows)) (fill.Joined parallel joined) (λ step has. OfStatement c (Joined parallel join rows) refl has) at)

  block_fine : (c : Context) (parallel : Bool) (join : Join) (rows : StepRow) → Ways m (Statement c (Joined parallel join rows)) (block_menu c parallel join (steps_of rows))
  block_fine c parallel (Fixed named) rows = joined_fine c parallel (Fixed named) rows named
  block_fine c parallel (Choose n) rows = by (nat_le n (length (steps_of rows)))
    where
      by : (b : Bool)
          → Ways m (Statement c (Joined parallel (Choose n) rows)) (if b then join_menu (λ joined. plain (fill.Joined parallel (mask joined)) (statements c (steps_of rows))) n (length (steps_of rows)) [] else Closed)
      by true = join_fine (Statement c (Joined parallel (Choose n) rows)) (λ joined. plain (fill.Joined parallel (mask joined)) (statements c (steps_of rows))) (λ bits. joined_fine c parallel (Choose n) rows (mask bits)) n (length (steps_of rows)) []
      by false = tt

  branch_fine : (c : Context) (rows : BranchRow) (k : ℕ) (o : Option (ℕ × BranchTree)) → slice_get (available c (branches_of rows)) k ≡ o → Ways m (Statement c (Select rows)) (branch_menu c o)
  branch_fine c rows k None is = tt
  branch_fine c rows k (Some e) is = λ known.
      let has = in_filter (λ (x : ℕ × BranchTree). holds_in c (guard_of x.1)) (enumerate_from 0 (branches_of rows)) e (in_get (available c (branches_of rows)) k e is) in
      let at = in_numbered (branches_of rows) e has.0 in (
        (λ s. (e.0, refl)),
        λ i x there. at_one c (branch_step e.1) i x m (Statement c (Select rows)) (fill.Select e.0) (OfStatement c (Select rows) refl (ap (option_map branch_step) at)) there,
      )

  repeat_fine : (c : Context) (count : ConstraintTree) (body : StepTree) (o : Option ℤ) → Ways m (Statement c (Repeat count body)) (repeat_menu c body o)
  repeat_fine c count body None = tt
  repeat_fine c count body (Some (pos n)) = λ known. (
    (λ s. refl),
    λ i x at. subst (Under m (Statement c (Repeat count body)) fill.Repeat i) (sym (turn_at c body 0 n i x at)) (zero_first i, (c, count, refl)),
  )
  repeat_fine c count body (Some (negsuc n)) = tt

  if_fine : (c : Context) (condition : ConstraintTree) (holds : StepTree) (fails : MaybeStep) (o : Option ℤ) → Ways m (Statement c (If condition holds fails)) (if_menu c holds (step_of fails) o)
  if_fine c condition holds fails None = tt
  if_fine c condition holds fails (Some v) = by (is_false v)
    where
      by : (b : Bool) → Ways m (Statement c (If condition holds fails)) (if b then plain (fill.If false) (optional c (step_of fails)) else plain (fill.If true) (Statement c holds ∷ []))
      by true = λ known.
          ((λ s. (false, refl)), λ i x at. at_optional c (step_of fails) i x m (Statement c (If condition holds fails)) (fill.If false) (λ step has. OfStatement c (If condition holds fails) refl has) at)
      by false = λ known. ((λ s. (true, refl)), λ i x at. at_one c holds i x m (Statement c (If condition holds fails)) (fill.If true) (OfStatement c (If condition holds fails) refl refl) at)

  other_fine : (c : Context) (matched : ConstraintTree) (arms : ArmRow) (other : MaybeStep) (o : Option StepTree) → step_of other ≡ o → Ways m (Statement c (Match matched arms other)) (other_menu c o)
  other_fine c matched arms other None is = tt
  other_fine c matched arms other (Some step) is = λ known.
      ((λ s. (None, refl)), λ i x at. at_one c step i x m (Statement c (Match matched arms other)) (fill.Match None) (OfStatement c (Match matched arms other) refl is) at)

  arm_fine : (c : Context) (matched : ConstraintTree) (arms : ArmRow) (other : MaybeStep) (v : ℤ) (o : Option (ℕ × ArmTree)) → find (is_in_arm v) (enumerate_from 0 (arms_of arms)) ≡ o
      → Ways m (Statement c (Match matched arms other)) (arm_menu c (step_of other) o)
  arm_fine c matched arms other v None is = other_fine c matched arms other (step_of other) refl
  arm_fine c matched arms other v (Some e) is = λ known.
      let at = in_numbered (arms_of arms) e (in_find (is_in_arm v) (enumerate_from 0 (arms_of arms)) e is).0 in (
        (λ s. (Some e.0, refl)),
        λ i x there. at_one c (arm_step e.1) i x m (Statement c (Match matched arms other)) (fill.Match (Some e.0)) (OfStatement c (Match matched arms other) refl (ap (option_map arm_step) at)) there,
      )

  match_fine : (c : Context) (matched : ConstraintTree) (arms : ArmRow) (other : MaybeStep) (o : Option ℤ) → Ways m (Statement c (Match matched arms other)) (match_menu c (arms_of arms) (step_of other) o)
  match_fine c matched arms other None = tt
  match_fine c matched arms other (Some v) = arm_fine c matched arms other v (find (is_in_arm v) (enumerate_from 0 (arms_of arms))) refl

  statement_fine : (c : Context) (step : StepTree) → Ways m (Statement c step) (statement_menu m c step)
  statement_fine c (Traverse action handle inline) = action_fine (Statement c (Traverse action handle inline)) action (λ s f of. of) (Some c.instance) (type_of m action) refl
  statement_fine c (Sequence rows) = λ known.
      ((λ s. refl), λ i x at. at_statement c (steps_of rows) i x m (Statement c (Sequence rows)) fill.Sequence (λ step has. OfStatement c (Sequence rows) refl has) at)
  statement_fine c (Parallel rows) = λ known.
      ((λ s. refl), λ i x at. at_statement c (steps_of rows) i x m (Statement c (Parallel rows)) fill.Parallel (λ step has. OfStatement c (Parallel rows) refl has) at)
  statement_fine c (Schedule rows) = λ known.
      ((λ s. refl), λ i x at. at_statement c (steps_of rows) i x m (Statement c (Schedule rows)) fill.Schedule (λ step has. OfStatement c (Schedule rows) refl has) at)
  statement_fine c (Joined parallel join rows) = block_fine c parallel join rows
  statement_fine c (Select rows) = λ k. branch_fine c rows k (slice_get (available c (branches_of rows)) k) refl
  statement_fine c (Repeat count body) = repeat_fine c count body (value_in c count)
  statement_fine c (If condition holds fails) = if_fine c condition holds fails (value_in c condition)
  statement_fine c (Match matched arms other) = match_fine c matched arms other (value_in c matched)

  pub menu_fine : (piece : Piece) → Ways m piece (menu m piece)
  menu_fine (Action action top) = action_fine (Action action top) action (λ s f of. of) top (type_of m action) refl
  menu_fine (Statement c step) = statement_fine c step
  menu_fine (Turning c index body) = λ known. ((λ s. refl), λ i x at. at_one (in_turn c index) body i x m (Turning c index body) (fill.Turn index) (OfTurn c index refl) at)
