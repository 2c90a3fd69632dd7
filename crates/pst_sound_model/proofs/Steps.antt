-- The steps of activities are sound.
use Rattle.std.proofs.Common.{◌≡◌, inl, inr, refl, sym, ap, subst, arith, ◌∙◌}
use Rattle.std.specs.Prelude.{ℕ, ◌+◌, Bool, true, false, List, [], ◌∷◌, ◌++◌, slice_get, All, IfSome, Option, Some, None, if◌then◌else◌}
use Rattle.std.specs.List.{filter_map, flat_map, cons_option, Contains}
use Rattle.std.specs.Option.{IsSomeAnd, option_map, option_map_or, option_or, option_and_then}
use Rattle.std.proofs.lemmas.List.Elements.{All-cons, All-nil, All-map}
use Rattle.std.proofs.lemmas.Option.{none-some, same_Some}
use Rattle.pst_base.specs.declared.position.Place.{Place}
use Rattle.pst_base.specs.declared.table.NameId.{NameId}
use Rattle.pst_ast.specs.declared.leaf.Name.{Name}
use Rattle.pst_ast.specs.declared.instance.Instance.{Instance}
use Rattle.pst_ast.specs.declared.shared.LabelNode.{LabelNode}
use Rattle.pst_ast.specs.declared.shared.TypeName.{TypeName}
use Rattle.pst_ast.specs.declared.activity.TogetherWord.{TogetherWord}
use Rattle.pst_ast.specs.declared.activity.TogetherWord.TheVariants as together
use Rattle.pst_ast.specs.ExpressionTree.{ExprTree}
use Rattle.pst_ast.specs.ActivityTree.{WithTree, JoinTree, GuardTree, GuardCondition, GuardWeight, ArmLabelRanges, ArmLabelDefault, StatementTree, StatementEmpty, StatementLabeled, StatementPlain, CoreTree, CoreDo, CoreHandle, CoreSequence, CoreTogether, CoreSelect, CoreRepeat, CoreIf, CoreIfElse, CoreMatch, CoreBind, BranchTree, MakeBranch, ArmTree, MakeArm, StatementRow, NoStatementRow, MoreStatementRow, BranchRow, NoBranchRow, MoreBranchRow, ArmRow, NoArmRow, MoreArmRow, ActivityTree, MakeActivity}
use Rattle.pst_ast.specs.DeclarationTree.{UnitTree}
use Rattle.pst_expr.specs.declared.ranges.Span.{Span}
use Rattle.pst_model.specs.ActivityTree.{StepTree, StepRow, MaybeStep, branches_of}
use Rattle.pst_model.specs.ActivityTree as step
use Rattle.pst_model.specs.ModelTree.{Atomic, Compound, ActionTree, ModelTree}
use Rattle.pst_model.specs.SoundActivity.{EachStep, EachOfSteps, EachOfBranches, EachOfBranch, EachOfArms, EachOfMaybe, IsCondition, IsTraversed, IsHandle, IsSoundBranch, IsSoundStep}
use Rattle.pst_ast.specs.Breaches.{IsNone}
use Rattle.pst_ast.specs.declared.scope_declaration.Declaration.{Declaration}
use Rattle.pst_ast.specs.declared.scope_declaration.Scope.TheVariants.{Files, Part}
use Rattle.pst_ast.specs.declared.environment.Environment.{Environment}
use Rattle.pst_ast.specs.declared.referent.Owner.TheVariants.{OfAction}
use Rattle.pst_ast.specs.declared.referent.Traversal.{Traversal}
use Rattle.pst_ast.specs.declared.referent.Traversal.TheVariants.{ByType}
use Rattle.pst_ast.specs.declared.referent.Referent.TheVariants.{Declared}
use Rattle.pst_ast.specs.Declarations.{declarations, index, in_with, in_statement, in_core, in_branch, in_arm, in_statement_row, in_branch_row, in_arm_row}
use Rattle.pst_ast.specs.Lookups.{look_up, if_sort, type_here, component_named, type_by, second_of, type_named, type_of, handled, traversed, value_named}
use Rattle.pst_ast.specs.NameRules.{NameBreach, Reaches}
use Rattle.pst_ast.specs.Sorts.{is_action, is_handle}
use Rattle.pst_ast.specs.Uses.{Use, NamesType, Traverses, Performs, Branches, Condition, AnAction, by_handle, with_index, with_uses, option_uses, whole_uses, weight_uses, guard_uses, branch_places, join_uses, labels_in, branches_in, core_place, arm_label_uses, performed, statement_uses, core_uses, branch_uses, arm_uses, statement_row_uses, branch_row_uses, arm_row_uses, uses}
use Rattle.pst_type_rules.specs.declared.typed.ConstantValue.{ConstantValue}
use Rattle.pst_type_rules.specs.Members.{those_that}
use Rattle.pst_type_rules.specs.Sites.{DeclaredAction, action_at}
use Rattle.pst_type_rules.specs.TypeRules.{TypeBreach, OfUse, AbstractTraversed}
use Rattle.pst_type_rules.specs.Typed.{AreConstants}
use Rattle.pst_tree.specs.Bases.{with_bases, handles_of, action_number, handle_number}
use Rattle.pst_tree.specs.Contents.{Content, Activity, Body, content_of}
use Rattle.pst_terms.specs.Sources.{Sources, declared_in}
use Rattle.pst_terms.specs.Readings.{Setting, Turn, AtLevel, AtNumber, expression_of}
use Rattle.pst_elab_rules.specs.Model.{sources, model_by, IsModel}
use Rattle.pst_elab_rules.specs.Steps.{inline_of, or_zero, traversed_number, handle_of, one_step, more_steps, together_step, guard_of, weight_of, turn_setting, statement_step, core_step, row_steps, branch_step, branch_steps, arm_row, arm_rows, default_of, default_in}
use Rattle.pst_elab_rules.specs.Types.{setting_of, handle_types, content, is_abstract, model_action, model_actions}
use Rattle.pst_sound_model.specs.SoundExpressionsConditions.{HaveOwnPlaces}
use Rattle.pst_sound_model.proofs.Members.{In, to_contains, from_contains}
use Rattle.pst_sound_model.proofs.Owned.{looked_up, numbered, those_declared, member_declared}
use Rattle.pst_sound_model.proofs.Facts.{AreFacts}
use Rattle.pst_sound_model.proofs.FactsOf.{facts_of}
use Rattle.pst_sound_model.proofs.SetTerms.{AreUses, AreDeclared}
use Rattle.pst_sound_model.proofs.TermsOf.{each_left, each_right}
use Rattle.pst_sound_model.proofs.ActionRows.{action_numbered, some_and, got_map, type_declared}
use Rattle.pst_sound_model.proofs.ActionsSound.{no_loops}
use Rattle.pst_sound_model.proofs.NeedsSound.{all_in}
use Rattle.pst_sound_model.proofs.Typed.{type_right, declared_action}
use Rattle.pst_sound_model.proofs.Arms.{arms_apart}
use Rattle.pst_sound_model.proofs.Handles.{handle_typed}
use Rattle.pst_sound_model.proofs.Joins.{joins_sound, weights_sound}
use Rattle.pst_sound_model.proofs.Numbers.{own_place_of, among_derived, number_derived}
use Rattle.pst_sound_model.proofs.Traversing.{declared_left, declared_right, text_more, handle_used, handle_of_is}
use Rattle.pst_sound_model.proofs.Judged.{activity_is, first_text}
use Rattle.pst_sound_model.proofs.Conditions.{IsTurn, AreTurns, IsPlain, condition_sound}
use Rattle.pst_sound_model.proofs.Inline.{inline_sound}

-- ---- rows

more_each : (P : ℕ → StepTree → Type 0) (level : ℕ) (o : Option StepTree) (row : StepRow) → EachStep P level (one_step o) → EachOfSteps P level row → EachOfSteps P level (more_steps o row)
more_each P level None row here rest = rest
more_each P level (Some step) row here rest = (here, rest)

together_each : (s : Sources) (P : ℕ → StepTree → Type 0) (level : ℕ) (word : TogetherWord) (statements : StatementRow) (row : StepRow) → P level (step.Parallel row) → P level (step.Schedule row) → EachOfSteps P level row → EachStep P level (together_step s word None statements row)
together_each s P level together.Parallel statements row p q rest = (p, rest)
together_each s P level together.Schedule statements row p q rest = (q, rest)

turn_later : (level : ℕ) (t : Turn) → IsTurn level t → IsTurn (level + 1) t
turn_later level (AtNumber n) h = tt
turn_later level (AtLevel k) h = omega (arith, h)

-- a type that is named is declared
here_declared : (ds : List Declaration) (component : Option Place) (name : NameId) (t : Declaration) → type_here ds component name ≡ Some t → In t ds
here_declared ds None name t e = (looked_up ds Files name t e).0
here_declared ds (Some c) name t e = by (look_up ds (Part c) name) refl e
  where
    by : (o : Option Declaration) → look_up ds (Part c) name ≡ o → option_or o (look_up ds Files name) ≡ Some t → In t ds
    by None had e = (looked_up ds Files name t e).0
    by (Some d) had e = (looked_up ds (Part c) name t (had ∙ e)).0

type_named_declared : (ds : List Declaration) (component : Option Place) (name : TypeName) (t : Declaration) → type_named ds component name ≡ Some t → In t ds
type_named_declared ds component name t e = by (second_of name) e
  where
    by : (second : Option Name) → type_by ds component name.first second ≡ Some t → In t ds
    by None e = here_declared ds component name.first.id t e
    by (Some second) e = found (component_named ds component name.first) e
      where
        found : (o : Option Declaration) → option_and_then (λ c. look_up ds (Part c.name.place) second.id) o ≡ Some t → In t ds
        found None e = absurd (none-some t e)
        found (Some c) e = (looked_up ds (Part c.name.place) second.id t e).0

contained : (units : List UnitTree) (us : List Use) → AreUses units us → (u : Use) → Contains us u → Contains (uses units) u
contained units us all u c = to_contains (uses units) u (all u (from_contains us u c.0 c.1 c.2))

module _ (units : List UnitTree) (names : List (List ℕ)) (constants : List ConstantValue) (are : AreConstants units names constants) (own : HaveOwnPlaces (declarations units)) (right : IsNone (NameBreach units names)) (kept : IsNone (TypeBreach units names))
    (domains : List (List Span)) (instances : List Instance)
    -- the action that has the activity, and the one in whose text it stands
    (x o : Declaration) (there : In x (declarations units)) (is : is_action x.sort ≡ true) (has : In o (with_bases (declarations units) x)) (o_there : In o (declarations units)) (o_is : is_action o.sort ≡ true)
    (activity : ActivityTree) (x_content : content_of units x ≡ Some (Activity o activity)) (o_content : content_of units o ≡ Some (Activity o activity)) (type : Place) where
  abbrev s : Sources
  s = sources units names constants

  abbrev ds : List Declaration
  ds = declarations units

  pub facts : AreFacts s
  facts = facts_of units names constants are kept own

  never : (d : Declaration) → In d ds → Reaches ds d d → ⊥
  never = no_loops units names right

  abbrev model_of : ModelTree
  model_of = model_by s domains instances

  abbrev action : ActionTree
  action = model_action s domains x

  abbrev P : ℕ → StepTree → Type 0
  P = IsSoundStep model_of action (handle_types ds x)

  abbrev Used : Use → Type 0
  Used u = In u (uses units)

  abbrev Plain : ℕ → Setting → Type 0
  Plain level setting = IsPlain s facts right kept o level setting

  -- ---- within a repetition

  later : (level : ℕ) (setting : Setting) → Plain level setting → Plain (level + 1) setting
  later level setting p = record { turns = λ t h. turn_later level t.1 (p.turns t h); text = p.text }

  in_turn : (level : ℕ) (setting : Setting) (label : LabelNode) → In (index type label.name) ds → Plain level setting → Plain (level + 1) (turn_setting setting level (Some label))
  in_turn level setting label itself p = record { turns = more; text = text_more s facts type o setting.at label.name itself p.text }
    where
      more : AreTurns (level + 1) ((label.name.place, AtLevel level) ∷ setting.turns)
      more t (inl e) = subst (λ (z : Place × Turn). IsTurn (level + 1) z.1) e (omega arith)
      more t (inr h) = turn_later level t.1 (p.turns t h)

  -- ---- conditions

  condition : (level : ℕ) (setting : Setting) → Plain level setting → (expr : ExprTree) → AreUses units (whole_uses setting.at Condition expr) → IsCondition action level (expression_of s setting expr)
  condition level setting p expr all = condition_sound s facts right kept o level never domains x there has setting p expr all

  branch_sound : (level : ℕ) (setting : Setting) → Plain level setting → (guard : Option GuardTree) (statement : StatementTree) (inner : StepTree) → AreUses units (branch_uses setting.at (MakeBranch guard statement))
      → IsSoundBranch action level (step.MakeBranch (guard_of s setting guard) (weight_of s guard) inner)
  branch_sound level setting p guard statement inner all =
      let w = weights_sound units names constants are kept setting.at guard statement (contained units (branch_uses setting.at (MakeBranch guard statement)) all) in
      record { guard = by guard (each_left Used (option_uses (guard_uses setting.at) guard) (statement_uses setting.at statement) all); least = w.0; most = w.1 }
    where
      by : (guard : Option GuardTree) → AreUses units (option_uses (guard_uses setting.at) guard) → IfSome (guard_of s setting guard) (IsCondition action level)
      by None all = tt
      by (Some (GuardWeight weight colon)) all = tt
      by (Some (GuardCondition left expr close weight colon)) all = condition level setting p expr (each_left Used (whole_uses setting.at Condition expr) (option_uses (weight_uses setting.at) weight) all)

  -- ---- traversals

  not_abstract : (at : Environment) (place : Place) (t : Traversal) (a : Declaration) → In a ds → is_action a.sort ≡ true → traversed ds names at t ≡ Some a → In (Performs at place t) (uses units) → is_abstract units a ≡ false
  not_abstract at place t a a_there a_is e used =
      let d = declared_action units a a_there a_is in
      ap (λ (f : Option DeclaredAction). option_map_or (λ a. a.is_abstract) f false) d.found ∙ by d.action d.found d.action.is_abstract refl
    where
      by : (f : DeclaredAction) → action_at units a.name.place ≡ Some f → (b : Bool) → f.is_abstract ≡ b → f.is_abstract ≡ false
      by f found false same = same
      by f found true same = absurd (kept place 17 (OfUse (Performs at place t) place 17 (to_contains (uses units) (Performs at place t) used) (AbstractTraversed at place t a f e found same)))

  number_traversed : (setting : Setting) (t : Traversal) (a : Declaration) → traversed ds names setting.at t ≡ Some a → traversed_number s setting t ≡ action_number ds a
  number_traversed setting t a e = ap (λ (d : Option Declaration). or_zero (option_map (action_number ds) d)) e

  traversal_sound : (level : ℕ) (setting : Setting) → Plain level setting → (place : Place) (t : Traversal) (a : Declaration) → In a ds → is_action a.sort ≡ true → traversed ds names setting.at t ≡ Some a → (with_part : WithTree)
      → In (Performs setting.at place t) (uses units) → AreUses units (with_uses setting.at t with_part) → AreDeclared ds (in_with type with_part)
      → IsSomeAnd (slice_get model_of.actions (traversed_number s setting t)) (IsTraversed model_of action level (inline_of s setting t with_part))
  traversal_sound level setting p place t a a_there a_is e with_part performs all inside =
      some_and (slice_get (model_actions s domains) (traversed_number s setting t)) (model_action s domains a) (IsTraversed model_of action level (inline_of s setting t with_part))
      (ap (slice_get (model_actions s domains)) (number_traversed setting t a e) ∙ action_numbered s facts domains a a_there a_is)
      (record {
        concrete = not_abstract setting.at place t a a_there a_is e performs;
        constraints = inline_sound s facts own right kept never x o there is has o_there o_is activity x_content o_content t a a_there a_is level domains instances type setting p.turns p.text.owner p.text.indices e with_part all inside;
      })

  -- by the name of a type
  type_traversed : (at : Environment) (name : TypeName) → In (NamesType at.component AnAction name) (uses units) → (a : Declaration) × (traversed ds names at (ByType name) ≡ Some a) × In a ds × (is_action a.sort ≡ true)
  unfolding traversed
  type_traversed at name used =
      let t = type_right units names right at.component AnAction name used in
      (t.0, ap (option_and_then (if_sort is_action)) t.1 ∙ ap (λ (b : Bool). if b then Some t.0 else None) t.2, type_named_declared ds at.component name t.0 t.1, t.2)

  -- by a handle
  handle_traversed : (setting : Setting) (n : Name) (h a : Declaration) → value_named ds names setting.at n.id ≡ Some (Declared h) → is_handle h.sort ≡ true → type_of ds h ≡ Some a → traversed ds names setting.at (by_handle setting.at n) ≡ Some a
  unfolding traversed value_named
  handle_traversed setting n h a e handle typed = ap (handled ds) e ∙ (ap (λ (b : Bool). if b then type_of ds h else None) handle ∙ typed)

  handle_typed_so : (n : Name) (h a : Declaration) (k number : ℕ) → In h (handles_of ds o) → type_of ds h ≡ Some a → k ≡ handle_number ds o h → number ≡ action_number ds a → slice_get (handle_types ds x) k ≡ Some number
  handle_typed_so n h a k number among typed e f =
      let here = among_derived units names own right never x o there has is_handle h among in
      ap (slice_get (handle_types ds x)) (e ∙ number_derived units names own right never x o there has is_handle h among)
      ∙ (got_map (λ h. option_map_or (action_number ds) (type_of ds h) 0) (handles_of ds x) (handle_number ds x h) h (numbered (handles_of ds x) h here (own_place_of units names own right is_handle x h here))
      ∙ (ap (λ (d : Option Declaration). Some (option_map_or (action_number ds) d 0)) typed ∙ ap (λ (m : ℕ). Some m) (sym f)))

  by_handle_sound : (n : Name) (h a : Declaration) (number : ℕ) → In h (handles_of ds o) → type_of ds h ≡ Some a → number ≡ action_number ds a → (by : Option ℕ) → by ≡ Some (handle_number ds o h) → IsHandle (handle_types ds x) number by
  by_handle_sound n h a number among typed f None e = absurd (none-some (handle_number ds o h) e)
  by_handle_sound n h a number among typed f (Some k) e = handle_typed_so n h a k number among typed (same_Some k (handle_number ds o h) e) f

  -- ---- steps

  abbrev Each : ℕ → Option StepTree → Type 0
  Each level o = EachStep P level (one_step o)

  joined_each : (level : ℕ) (setting : Setting) (word : TogetherWord) (at : Place) (join : JoinTree) (left : Place) (statements : StatementRow) (close : Place) → AreUses units (core_uses setting.at (CoreTogether word at (Some join) left statements close))
      → EachOfSteps P level (row_steps s setting level statements) → EachStep P level (together_step s word (Some join) statements (row_steps s setting level statements))
  joined_each level setting together.Parallel at join left statements close all rest =
      (joins_sound units names constants are kept setting.at together.Parallel at join left statements close (contained units (core_uses setting.at (CoreTogether together.Parallel at (Some join) left statements close)) all) setting level, rest)
  joined_each level setting together.Schedule at join left statements close all rest =
      (joins_sound units names constants are kept setting.at together.Schedule at join left statements close (contained units (core_uses setting.at (CoreTogether together.Schedule at (Some join) left statements close)) all) setting level, rest)

  its_branch : (level : ℕ) (setting : Setting) → Plain level setting → (t : BranchTree) → AreUses units (branch_uses setting.at t) → IsSoundBranch action level (branch_step s setting level t)
  its_branch level setting p (MakeBranch guard statement) all = branch_sound level setting p guard statement (one_step (statement_step s setting level statement)) all

  its_branches : (level : ℕ) (setting : Setting) → Plain level setting → (t : BranchRow) → AreUses units (branch_row_uses setting.at t) → All (IsSoundBranch action level) (branches_of (branch_steps s setting level t))
  its_branches level setting p NoBranchRow all = All-nil (IsSoundBranch action level)
  its_branches level setting p (MoreBranchRow head tail) all =
      All-cons (IsSoundBranch action level) (branch_step s setting level head) (branches_of (branch_steps s setting level tail)) (its_branch level setting p head (each_left Used (branch_uses setting.at head) (branch_row_uses setting.at tail) all))
      (its_branches level setting p tail (each_right Used (branch_uses setting.at head) (branch_row_uses setting.at tail) all))

  mutual
    statement_each : (level : ℕ) (setting : Setting) → Plain level setting → (t : StatementTree) → AreUses units (statement_uses setting.at t) → AreDeclared ds (in_statement type t) → Each level (statement_step s setting level t)
    statement_each level setting p (StatementEmpty place) all inside = (tt, tt)
    statement_each level setting p (StatementLabeled label core) all inside =
        core_each level setting p label.name.place core (each_left Used (performed setting.at label.name.place core) (core_uses setting.at core) all) (each_right Used (performed setting.at label.name.place core) (core_uses setting.at core) all) inside
    statement_each level setting p (StatementPlain core) all inside =
        core_each level setting p (core_place core) core (each_left Used (performed setting.at (core_place core) core) (core_uses setting.at core) all) (each_right Used (performed setting.at (core_place core) core) (core_uses setting.at core) all) inside

    core_each : (level : ℕ) (setting : Setting) → Plain level setting → (place : Place) (t : CoreTree) → AreUses units (performed setting.at place t) → AreUses units (core_uses setting.at t) → AreDeclared ds (in_core type t) → Each level (core_step s setting level t)
    core_each level setting p place (CoreDo do_place name with_part) performs all inside =
        let a = type_traversed setting.at name (all (NamesType setting.at.component AnAction name) (inl refl)) in
        (tt, traversal_sound level setting p place (ByType name) a.0 a.2 a.3 a.1 with_part (performs (Performs setting.at place (ByType name)) (inl refl)) (λ u h. all u (inr h)) inside)
    core_each level setting p place (CoreHandle n with_part) performs all inside =
        let k = handle_used s own right o setting n p.text (all (Traverses setting.at n) (inl refl)) in
        let m = member_declared is_handle ds o k.handle k.among in
        let a = handle_typed s facts right k.handle m.0 m.1 in
        let e = handle_traversed setting n k.handle a.0 k.value k.is a.1 in (
          by_handle_sound n k.handle a.0 (traversed_number s setting (by_handle setting.at n)) k.among a.1 (number_traversed setting (by_handle setting.at n) a.0 e) (handle_of s setting n) (handle_of_is s own right o setting n p.text.owner k),
          traversal_sound level setting p place (by_handle setting.at n) a.0 (type_declared ds k.handle a.0 a.1) a.2 e with_part (performs (Performs setting.at place (by_handle setting.at n)) (inl refl)) (λ u h. all u (inr h)) inside,
        )
    core_each level setting p place (CoreSequence word left statements close) performs all inside = (tt, row_each level setting p statements all inside)
    core_each level setting p place (CoreTogether word at None left statements close) performs all inside =
        together_each s P level word statements (row_steps s setting level statements) tt tt (row_each level setting p statements all inside)
    core_each level setting p place (CoreTogether word at (Some join) left statements close) performs all inside =
        joined_each level setting word at join left statements close all
        (row_each level setting p statements (each_right Used (Branches (branch_places statements) ∷ join_uses setting.at (labels_in statements) (branches_in statements) join) (statement_row_uses setting.at statements) all) inside)
    core_each level setting p place (CoreSelect word left first rest close) performs all inside =
        let one = each_left Used (branch_uses setting.at first) (branch_row_uses setting.at rest) all in
        let more = each_right Used (branch_uses setting.at first) (branch_row_uses setting.at rest) all in (
          All-cons (IsSoundBranch action level) (branch_step s setting level first) (branches_of (branch_steps s setting level rest)) (its_branch level setting p first one) (its_branches level setting p rest more),
          (branch_each level setting p first one (declared_left ds (in_branch type first) (in_branch_row type rest) inside), branch_row_each level setting p rest more (declared_right ds (in_branch type first) (in_branch_row type rest) inside)),
        )
    core_each level setting p place (CoreRepeat word left None count close statement) performs all inside = (
      condition level setting p count (each_left Used (whole_uses setting.at Condition count) (statement_uses setting.at statement) all),
      statement_each (level + 1) setting (later level setting p) statement (each_right Used (whole_uses setting.at Condition count) (statement_uses setting.at statement) all) inside,
    )
    core_each level setting p place (CoreRepeat word left (Some label) count close statement) performs all inside = (
      condition level setting p count (each_left Used (whole_uses setting.at Condition count) (statement_uses (with_index setting.at (Some label)) statement) all),
      statement_each (level + 1) (turn_setting setting level (Some label)) (in_turn level setting label (inside (index type label.name) (inl refl)) p) statement
          (each_right Used (whole_uses setting.at Condition count) (statement_uses (with_index setting.at (Some label)) statement) all) (λ d h. inside d (inr h)),
    )
    core_each level setting p place (CoreIf word left expr close then_part) performs all inside = (
      condition level setting p expr (each_left Used (whole_uses setting.at Condition expr) (statement_uses setting.at then_part) all),
      statement_each level setting p then_part (each_right Used (whole_uses setting.at Condition expr) (statement_uses setting.at then_part) all) inside,
      tt,
    )
    core_each level setting p place (CoreIfElse word left expr close then_part else_place otherwise) performs all inside =
        let behind : AreUses units (statement_uses setting.at then_part ++ statement_uses setting.at otherwise) = each_right Used (whole_uses setting.at Condition expr) (statement_uses setting.at then_part ++ statement_uses setting.at otherwise) all in (
          condition level setting p expr (each_left Used (whole_uses setting.at Condition expr) (statement_uses setting.at then_part ++ statement_uses setting.at otherwise) all),
          statement_each level setting p then_part (each_left Used (statement_uses setting.at then_part) (statement_uses setting.at otherwise) behind) (declared_left ds (in_statement type then_part) (in_statement type otherwise) inside),
          statement_each level setting p otherwise (each_right Used (statement_uses setting.at then_part) (statement_uses setting.at otherwise) behind) (declared_right ds (in_statement type then_part) (in_statement type otherwise) inside),
        )
    core_each level setting p place (CoreMatch word left expr close opening first rest end) performs all inside =
        let inner : AreUses units (whole_uses setting.at Condition expr ++ (arm_uses setting.at first ++ arm_row_uses setting.at rest)) = λ u h. all u (inr h) in
        let behind : AreUses units (arm_uses setting.at first ++ arm_row_uses setting.at rest) = each_right Used (whole_uses setting.at Condition expr) (arm_uses setting.at first ++ arm_row_uses setting.at rest) inner in
        let one = arm_each level setting p first (each_left Used (arm_uses setting.at first) (arm_row_uses setting.at rest) behind) (declared_left ds (in_arm type first) (in_arm_row type rest) inside) in
        let more = arm_row_each level setting p rest (each_right Used (arm_uses setting.at first) (arm_row_uses setting.at rest) behind) (declared_right ds (in_arm type first) (in_arm_row type rest) inside) in (
          (
            condition level setting p expr (each_left Used (whole_uses setting.at Condition expr) (arm_uses setting.at first ++ arm_row_uses setting.at rest) inner),
            arms_apart units names constants are kept setting.at word left expr close opening first rest end (contained units (core_uses setting.at (CoreMatch word left expr close opening first rest end)) all) setting level,
          ),
          one.0 (arm_rows s setting level rest) more.0,
          one.1 (default_in s setting level rest) more.1,
        )
    core_each level setting p place (CoreBind bind) performs all inside = (tt, tt)

    row_each : (level : ℕ) (setting : Setting) → Plain level setting → (t : StatementRow) → AreUses units (statement_row_uses setting.at t) → AreDeclared ds (in_statement_row type t) → EachOfSteps P level (row_steps s setting level t)
    row_each level setting p NoStatementRow all inside = tt
    row_each level setting p (MoreStatementRow head tail) all inside =
        more_each P level (statement_step s setting level head) (row_steps s setting level tail)
        (statement_each level setting p head (each_left Used (statement_uses setting.at head) (statement_row_uses setting.at tail) all) (declared_left ds (in_statement type head) (in_statement_row type tail) inside))
        (row_each level setting p tail (each_right Used (statement_uses setting.at head) (statement_row_uses setting.at tail) all) (declared_right ds (in_statement type head) (in_statement_row type tail) inside))

    branch_each : (level : ℕ) (setting : Setting) → Plain level setting → (t : BranchTree) → AreUses units (branch_uses setting.at t) → AreDeclared ds (in_branch type t) → EachOfBranch P level (branch_step s setting level t)
    branch_each level setting p (MakeBranch guard statement) all inside = statement_each level setting p statement (each_right Used (option_uses (guard_uses setting.at) guard) (statement_uses setting.at statement) all) inside

    branch_row_each : (level : ℕ) (setting : Setting) → Plain level setting → (t : BranchRow) → AreUses units (branch_row_uses setting.at t) → AreDeclared ds (in_branch_row type t) → EachOfBranches P level (branch_steps s setting level t)
    branch_row_each level setting p NoBranchRow all inside = tt
    branch_row_each level setting p (MoreBranchRow head tail) all inside = (
      branch_each level setting p head (each_left Used (branch_uses setting.at head) (branch_row_uses setting.at tail) all) (declared_left ds (in_branch type head) (in_branch_row type tail) inside),
      branch_row_each level setting p tail (each_right Used (branch_uses setting.at head) (branch_row_uses setting.at tail) all) (declared_right ds (in_branch type head) (in_branch_row type tail) inside),
    )

    arm_each : (level : ℕ) (setting : Setting) → Plain level setting → (t : ArmTree) → AreUses units (arm_uses setting.at t) → AreDeclared ds (in_arm type t)
        → ((row : step.ArmRow) → EachOfArms P level row → EachOfArms P level (arm_row s setting level t row)) × ((other : MaybeStep) → EachOfMaybe P level other → EachOfMaybe P level (default_of s setting level t other))
    arm_each level setting p (MakeArm (ArmLabelRanges left ranges close) colon statement) all inside =
        ((λ row rest. (statement_each level setting p statement (each_right Used (arm_label_uses setting.at (ArmLabelRanges left ranges close)) (statement_uses setting.at statement) all) inside, rest)), (λ other rest. rest))
    arm_each level setting p (MakeArm (ArmLabelDefault place) colon statement) all inside =
        ((λ row rest. rest), (λ other rest. statement_each level setting p statement (each_right Used (arm_label_uses setting.at (ArmLabelDefault place)) (statement_uses setting.at statement) all) inside))

    arm_row_each : (level : ℕ) (setting : Setting) → Plain level setting → (t : ArmRow) → AreUses units (arm_row_uses setting.at t) → AreDeclared ds (in_arm_row type t) → EachOfArms P level (arm_rows s setting level t) × EachOfMaybe P level (default_in s setting level t)
    arm_row_each level setting p NoArmRow all inside = (tt, tt)
    arm_row_each level setting p (MoreArmRow head tail) all inside =
        let one = arm_each level setting p head (each_left Used (arm_uses setting.at head) (arm_row_uses setting.at tail) all) (declared_left ds (in_arm type head) (in_arm_row type tail) inside) in
        let more = arm_row_each level setting p tail (each_right Used (arm_uses setting.at head) (arm_row_uses setting.at tail) all) (declared_right ds (in_arm type head) (in_arm_row type tail) inside) in
        (one.0 (arm_rows s setting level tail) more.0, one.1 (default_in s setting level tail) more.1)

  cons_all : (o : Option StepTree) (row : List StepTree) → Each 0 o → All (EachStep P 0) row → All (EachStep P 0) (cons_option o row)
  cons_all None row here rest = rest
  cons_all (Some step) row here rest = All-cons (EachStep P 0) step row here rest

  -- the statements of an activity
  pub list_each : (setting : Setting) → Plain 0 setting → (ts : List StatementTree) → AreUses units (flat_map (statement_uses setting.at) ts) → AreDeclared ds (flat_map (in_statement type) ts) → All (EachStep P 0) (filter_map (statement_step s setting 0) ts)
  list_each setting p [] all inside = All-nil (EachStep P 0)
  list_each setting p (t ∷ more) all inside =
      cons_all (statement_step s setting 0 t) (filter_map (statement_step s setting 0) more)
      (statement_each 0 setting p t (each_left Used (statement_uses setting.at t) (flat_map (statement_uses setting.at) more) all) (declared_left ds (in_statement type t) (flat_map (in_statement type) more) inside))
      (list_each setting p more (each_right Used (statement_uses setting.at t) (flat_map (statement_uses setting.at) more) all) (declared_right ds (in_statement type t) (flat_map (in_statement type) more) inside))

-- ---- in the model

no_compound : (body : _) (activity : step.ActivityTree) → Atomic body ≡ Compound activity → ⊥
no_compound body activity e = cc

same_compound : (one two : step.ActivityTree) → Compound one ≡ Compound two → one ≡ two
same_compound one two e = cc

module _ (units : List UnitTree) (names : List (List ℕ)) (constants : List ConstantValue) (are : AreConstants units names constants) (own : HaveOwnPlaces (declarations units)) (right : IsNone (NameBreach units names)) (kept : IsNone (TypeBreach units names))
    (domains : List (List Span)) (instances : List Instance) (x : Declaration) (there : In x (declarations units)) (is : is_action x.sort ≡ true) where
  abbrev its : Sources
  its = sources units names constants

  its_facts : AreFacts its
  its_facts = facts_of units names constants are kept own

  abbrev Sound : step.ActivityTree → Type 0
  Sound a = All (EachStep (IsSoundStep (model_by its domains instances) (model_action its domains x) a.handles) 0) a.steps

  of_content : (c : Option Content) → content_of units x ≡ c → (a : step.ActivityTree) → content its x c ≡ Compound a → Sound a
  of_content None e a same = absurd (no_compound _ a same)
  of_content (Some (Body o body)) e a same = absurd (no_compound _ a same)
  of_content (Some (Activity o (MakeActivity word left statements close))) e a same =
      let i = activity_is its its_facts own right kept (no_loops units names right) x o word left close statements there is e in
      let setting = setting_of o (OfAction o) in
      subst Sound (same_compound _ a same)
      (list_each units names constants are own right kept domains instances x o there is i.base i.there i.is (MakeActivity word left statements close) e i.itself i.type setting
      (record { turns = λ t h. absurd h; text = first_text its its_facts own right kept (no_loops units names right) o }) statements i.used i.declared)

  pub its_steps : (a : step.ActivityTree) → content its x (content_of units x) ≡ Compound a → Sound a
  its_steps a same = of_content (content_of units x) refl a same

pub steps_sound : (units : List UnitTree) (names : List (List ℕ)) (model : ModelTree) → HaveOwnPlaces (declarations units) → IsNone (NameBreach units names) → IsNone (TypeBreach units names) → IsModel units names model
    → All (λ action. (activity : step.ActivityTree) → action.content ≡ Compound activity → All (EachStep (IsSoundStep model action activity.handles) 0) activity.steps) model.actions
steps_sound units names model own right kept is =
    let s = sources units names is.constants in
    subst (λ (m : ModelTree). All (λ action. (activity : step.ActivityTree) → action.content ≡ Compound activity → All (EachStep (IsSoundStep m action activity.handles) 0) activity.steps) m.actions) (sym is.is)
    (All-map (λ action. (activity : step.ActivityTree) → action.content ≡ Compound activity → All (EachStep (IsSoundStep (model_by s is.domains is.instances) action activity.handles) 0) activity.steps) (model_action s is.domains) (those_that is_action (declared_in s))
    (all_in (λ d. (activity : step.ActivityTree) → content s d (content_of units d) ≡ Compound activity → All (EachStep (IsSoundStep (model_by s is.domains is.instances) (model_action s is.domains d) activity.handles) 0) activity.steps) (those_that is_action (declared_in s))
    (λ d there. let both = those_declared is_action (declared_in s) d there in its_steps units names is.constants is.are_constants own right kept is.domains is.instances d both.0 both.1)))
