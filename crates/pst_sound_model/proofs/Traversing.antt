-- A handle is traversed by the activity of the model as its name is by that of the sources.
use Rattle.std.proofs.Common.{◌≡◌, inl, inr, refl, sym, ap, subst, arith, ◌∙◌}
use Rattle.std.specs.Prelude.{ℕ, ◌+◌, Bool, true, false, nat_eq, List, [], ◌∷◌, ◌++◌, Option, Some, None, if◌then◌else◌}
use Rattle.std.specs.List.{filter_map, flat_map, cons_option}
use Rattle.std.specs.Option.{option_map}
use Rattle.std.proofs.lemmas.List.{append-nil}
use Rattle.pst_base.specs.declared.position.Place.{Place}
use Rattle.pst_base.specs.declared.table.NameId.{NameId}
use Rattle.pst_ast.specs.declared.leaf.Name.{Name}
use Rattle.pst_ast.specs.declared.activity.TogetherWord.{TogetherWord}
use Rattle.pst_ast.specs.declared.activity.TogetherWord.TheVariants as together
use Rattle.pst_ast.specs.ActivityTree.{JoinTree, ArmLabelTree, ArmLabelRanges, ArmLabelDefault, StatementTree, StatementEmpty, StatementLabeled, StatementPlain, CoreTree, CoreDo, CoreHandle, CoreSequence, CoreTogether, CoreSelect, CoreRepeat, CoreIf, CoreIfElse, CoreMatch, CoreBind, BranchTree, MakeBranch, ArmTree, MakeArm, StatementRow, NoStatementRow, MoreStatementRow, BranchRow, NoBranchRow, MoreBranchRow, ArmRow, NoArmRow, MoreArmRow}
use Rattle.pst_model.specs.ActivityTree.{StepTree, StepRow, MaybeStep}
use Rattle.pst_model.specs.ActivityTree as step
use Rattle.pst_model.specs.Traversals as model
use Rattle.pst_ast.specs.Breaches.{IsNone}
use Rattle.pst_ast.specs.declared.scope_declaration.Declaration.{Declaration}
use Rattle.pst_ast.specs.declared.environment.Environment.{Environment}
use Rattle.pst_ast.specs.declared.referent.Owner.{Owner}
use Rattle.pst_ast.specs.declared.referent.Owner.TheVariants.{OfAction}
use Rattle.pst_ast.specs.declared.referent.Referent.{Referent}
use Rattle.pst_ast.specs.Declarations.{declarations, index, in_statement, in_core, in_branch, in_arm, in_statement_row, in_branch_row, in_arm_row}
use Rattle.pst_ast.specs.NameRules.{NameBreach, Reaches, unless, is_handle_name}
use Rattle.pst_ast.specs.Sorts.{same_name}
use Rattle.pst_ast.specs.Uses.{Use, Traverses, Branches, Condition, with_inner, with_index, option_uses, whole_uses, guard_uses, branch_places, join_uses, labels_in, branches_in, core_place, arm_label_uses, performed, statement_uses, core_uses, branch_uses, arm_uses, statement_row_uses, branch_row_uses, arm_row_uses, uses}
use Rattle.pst_type_rules.specs.Handles.{traversals, core_traversals, row_traversals, branch_traversals, branch_row_traversals, arm_traversals, arm_row_traversals}
use Rattle.pst_tree.specs.Bases.{with_bases, handles_of, handle_number}
use Rattle.pst_terms.specs.Sources.{Sources, declared_in}
use Rattle.pst_terms.specs.Readings.{Setting}
use Rattle.pst_elab_rules.specs.Steps.{handle_in, handle_number_in, handle_of, one_step, more_steps, together_step, turn_setting, statement_step, core_step, row_steps, branch_step, branch_steps, arm_row, arm_rows, default_of, default_in}
use Rattle.pst_sound_model.specs.SoundExpressionsConditions.{HaveOwnPlaces}
use Rattle.pst_sound_model.proofs.Members.{In, to_left, to_right}
use Rattle.pst_sound_model.proofs.Meanings.{AreIndices}
use Rattle.pst_sound_model.proofs.Facts.{AreFacts}
use Rattle.pst_sound_model.proofs.Plain.{index_more}
use Rattle.pst_sound_model.proofs.SetTerms.{AreUses, AreDeclared}
use Rattle.pst_sound_model.proofs.TermsOf.{each_left, each_right}
use Rattle.pst_sound_model.proofs.Typed.{nothing_found}
use Rattle.pst_sound_model.proofs.Tally.{tally, tally_both, Alike, alike_none, alike_leaf, alike_within, alike_by, alike_sum, alike_both, alike_instead}
use Rattle.pst_sound_model.proofs.Numbers.{IsHandleOf, handle_named_is, number_by_name}

-- ---- rows of a model

more_traversals : (h : ℕ) (within : Bool) (o : Option StepTree) (row : StepRow) → model.traversals_of_steps h within (more_steps o row) ≡ model.traversals h within (one_step o) ++ model.traversals_of_steps h within row
more_traversals h within None row = refl
more_traversals h within (Some step) row = refl

pub cons_traversals : (h : ℕ) (o : Option StepTree) (row : List StepTree) → flat_map (model.traversals h false) (cons_option o row) ≡ model.traversals h false (one_step o) ++ flat_map (model.traversals h false) row
cons_traversals h None row = refl
cons_traversals h (Some step) row = refl

together_traversals : (s : Sources) (h : ℕ) (within : Bool) (word : TogetherWord) (join : Option JoinTree) (statements : StatementRow) (row : StepRow) → model.traversals h within (together_step s word join statements row) ≡ model.traversals_of_steps h within row
together_traversals s h within together.Parallel None statements row = refl
together_traversals s h within together.Schedule None statements row = refl
together_traversals s h within together.Parallel (Some join) statements row = refl
together_traversals s h within together.Schedule (Some join) statements row = refl

unless_true : (good : Bool) (place : Place) (rule : ℕ) → unless good place rule ≡ None → good ≡ true
unless_true true place rule e = refl
unless_true false place rule e = let never : ⊥ = cc in absurd never

-- ---- what is declared

pub declared_left : (ds xs ys : List Declaration) → AreDeclared ds (xs ++ ys) → AreDeclared ds xs
declared_left ds xs ys all d there = all d (to_left xs ys d there)

pub declared_right : (ds xs ys : List Declaration) → AreDeclared ds (xs ++ ys) → AreDeclared ds ys
declared_right ds xs ys all d there = all d (to_right xs ys d there)

-- ---- where a statement stands

-- in the text of an action, within indices alone, outside of inline constraints
pub record IsText (ds : List Declaration) (o : Declaration) (at : Environment) : Type 0 where
  pub owner : at.owner ≡ OfAction o
  pub indices : AreIndices ds at
  pub plain : at.traversal ≡ None

pub text_more : (s : Sources) → AreFacts s → (type : Place) (o : Declaration) (at : Environment) (name : Name) → In (index type name) (declared_in s) → IsText (declared_in s) o at → IsText (declared_in s) o (with_inner at name)
text_more s facts type o at name itself t = record { owner = t.owner; indices = index_more s facts type at name itself t.indices; plain = t.plain }

-- ---- the handles of traversals

module _ (s : Sources) (own : HaveOwnPlaces (declarations s.units)) (right : IsNone (NameBreach s.units s.names)) (o : Declaration) where
  pub handle_used : (setting : Setting) (n : Name) → IsText (declared_in s) o setting.at → In (Traverses setting.at n) (uses s.units) → IsHandleOf s.units s.names own right o setting.at n.id
  handle_used setting n text used =
      handle_named_is s.units s.names own right o setting.at n text.owner text.indices text.plain
      (unless_true (is_handle_name (declared_in s) s.names setting.at n) n.place 3 (nothing_found s.units s.names right (Traverses setting.at n) used))

  pub handle_of_is : (setting : Setting) (n : Name) → setting.at.owner ≡ OfAction o → (k : IsHandleOf s.units s.names own right o setting.at n.id) → handle_of s setting n ≡ Some (handle_number (declared_in s) o k.handle)
  handle_of_is setting n owner k =
      ap (λ (r : Option Referent). option_map (handle_number_in s setting.at.owner) (handle_in r)) k.value
      ∙ (ap (λ (b : Bool). option_map (handle_number_in s setting.at.owner) (if b then Some k.handle else None)) k.is
      ∙ ap (λ (w : Owner). Some (handle_number_in s w k.handle)) owner)

module _ (s : Sources) (facts : AreFacts s) (own : HaveOwnPlaces (declarations s.units)) (right : IsNone (NameBreach s.units s.names)) (never : (d : Declaration) → In d (declared_in s) → Reaches (declared_in s) d d → ⊥)
    (x o : Declaration) (there : In x (declared_in s)) (has : In o (with_bases (declared_in s) x)) (h : Declaration) (here : In h (handles_of (declared_in s) x)) (type : Place) where
  abbrev ds : List Declaration
  ds = declared_in s

  abbrev number : ℕ
  number = handle_number ds x h

  abbrev name : NameId
  name = h.name.id

  abbrev Text : Setting → Type 0
  Text setting = IsText ds o setting.at

  abbrev Used : Use → Type 0
  Used u = In u (uses s.units)

  by_leaf : (within : Bool) (setting : Setting) (n : Name) → Text setting → IsHandleOf s.units s.names own right o setting.at n.id → Alike within (model.traversal_by number within (handle_of s setting n)) (if same_name n.id name then within ∷ [] else [])
  by_leaf within setting n text k =
      let equal : nat_eq number (handle_number ds o k.handle) ≡ same_name n.id name = number_by_name s.units s.names own right never x o there has h k.handle here k.among ∙ ap (λ (i : NameId). same_name i name) k.named in
      subst (λ (r : Option ℕ). Alike within (model.traversal_by number within r) (if same_name n.id name then within ∷ [] else [])) (sym (handle_of_is s own right o setting n text.owner k))
      (subst (λ (b : Bool). Alike within (if b then within ∷ [] else []) (if same_name n.id name then within ∷ [] else [])) (sym equal) (alike_leaf within (same_name n.id name)))

  abbrev Same : Bool → Option StepTree → List Bool → Type 0
  Same within o t = Alike within (model.traversals number within (one_step o)) t

  within_same : (o : Option StepTree) (t : List Bool) → Same true o t → (within : Bool) → Alike within (model.traversals number true (one_step o)) t
  within_same o t a within = alike_within within (model.traversals number true (one_step o)) t a

  -- ---- arms: what is left out by an earlier default counts nothing

  abbrev SameArms : step.ArmRow → MaybeStep → List Bool → Type 0
  SameArms row other t = Alike true (model.traversals_of_arms number row ++ model.traversals_of_maybe number other) t

  arm_same : (setting : Setting) (level : ℕ) (label : ArmLabelTree) (colon : Place) (statement : StatementTree) (row : step.ArmRow) (other : MaybeStep) (t : List Bool) → Same true (statement_step s setting level statement) (traversals name true statement)
      → SameArms row other t → SameArms (arm_row s setting level (MakeArm label colon statement) row) (default_of s setting level (MakeArm label colon statement) other) (traversals name true statement ++ t)
  arm_same setting level (ArmLabelRanges left ranges close) colon statement row other t inner rest =
      let m = model.traversals number true (one_step (statement_step s setting level statement)) in
      let a = model.traversals_of_arms number row in
      let b = model.traversals_of_maybe number other in
      alike_sum true ((m ++ a) ++ b) m (a ++ b) (traversals name true statement ++ t) (traversals name true statement) t
      (omega (arith, tally_both (m ++ a) b, tally_both m a, tally_both a b)) (tally_both (traversals name true statement) t) inner rest
  arm_same setting level (ArmLabelDefault place) colon statement row other t inner rest =
      alike_instead (model.traversals_of_arms number row) (model.traversals_of_maybe number other) (model.traversals number true (one_step (statement_step s setting level statement))) (traversals name true statement) t
      inner rest

  no_more : (within : Bool) (m t : List Bool) → Alike within m t → Alike within (m ++ []) t
  no_more within m t a = alike_by within (m ++ []) m t t (ap tally (append-nil m)) refl a

  -- ---- statements

  mutual
    pub statement_same : (within : Bool) (setting : Setting) (level : ℕ) → Text setting → (t : StatementTree) → AreUses s.units (statement_uses setting.at t) → AreDeclared ds (in_statement type t) → Same within (statement_step s setting level t) (traversals name within t)
    statement_same within setting level text (StatementEmpty place) all inside = alike_none within
    statement_same within setting level text (StatementLabeled label core) all inside =
        core_same within setting level text core (each_right Used (performed setting.at label.name.place core) (core_uses setting.at core) all) inside
    statement_same within setting level text (StatementPlain core) all inside = core_same within setting level text core (each_right Used (performed setting.at (core_place core) core) (core_uses setting.at core) all) inside

    core_same : (within : Bool) (setting : Setting) (level : ℕ) → Text setting → (t : CoreTree) → AreUses s.units (core_uses setting.at t) → AreDeclared ds (in_core type t) → Same within (core_step s setting level t) (core_traversals name within t)
    core_same within setting level text (CoreDo do_place n with_part) all inside = alike_none within
    core_same within setting level text (CoreHandle n with_part) all inside = by_leaf within setting n text (handle_used s own right o setting n text (all (Traverses setting.at n) (inl refl)))
    core_same within setting level text (CoreSequence word left statements close) all inside = row_same within setting level text statements all inside
    core_same within setting level text (CoreTogether word place join left statements close) all inside =
        subst (λ (m : List Bool). Alike within m (row_traversals name within statements)) (sym (together_traversals s number within word join statements (row_steps s setting level statements)))
        (row_same within setting level text statements
        (each_right Used (option_uses (λ j. Branches (branch_places statements) ∷ join_uses setting.at (labels_in statements) (branches_in statements) j) join) (statement_row_uses setting.at statements) all) inside)
    core_same within setting level text (CoreSelect word left first rest close) all inside =
        alike_within within (model.traversals_of_branches number (step.MoreBranches (branch_step s setting level first) (branch_steps s setting level rest))) (branch_traversals name first ++ branch_row_traversals name rest)
        (alike_both true (model.traversals_of_branch number (branch_step s setting level first)) (model.traversals_of_branches number (branch_steps s setting level rest)) (branch_traversals name first) (branch_row_traversals name rest)
        (branch_same setting level text first (each_left Used (branch_uses setting.at first) (branch_row_uses setting.at rest) all) (declared_left ds (in_branch type first) (in_branch_row type rest) inside))
        (branch_row_same setting level text rest (each_right Used (branch_uses setting.at first) (branch_row_uses setting.at rest) all) (declared_right ds (in_branch type first) (in_branch_row type rest) inside)))
    core_same within setting level text (CoreRepeat word left None count close statement) all inside =
        within_same (statement_step s setting (level + 1) statement) (traversals name true statement)
        (statement_same true setting (level + 1) text statement (each_right Used (whole_uses setting.at Condition count) (statement_uses setting.at statement) all) inside) within
    core_same within setting level text (CoreRepeat word left (Some label) count close statement) all inside =
        within_same (statement_step s (turn_setting setting level (Some label)) (level + 1) statement) (traversals name true statement)
        (statement_same true (turn_setting setting level (Some label)) (level + 1) (text_more s facts type o setting.at label.name (inside (index type label.name) (inl refl)) text) statement
        (each_right Used (whole_uses setting.at Condition count) (statement_uses (with_index setting.at (Some label)) statement) all) (λ d h. inside d (inr h))) within
    core_same within setting level text (CoreIf word left condition close then_part) all inside =
        no_more within (model.traversals number true (one_step (statement_step s setting level then_part))) (traversals name true then_part)
        (within_same (statement_step s setting level then_part) (traversals name true then_part)
        (statement_same true setting level text then_part (each_right Used (whole_uses setting.at Condition condition) (statement_uses setting.at then_part) all) inside) within)
    core_same within setting level text (CoreIfElse word left condition close then_part else_place otherwise) all inside =
        let behind : AreUses s.units (statement_uses setting.at then_part ++ statement_uses setting.at otherwise) = each_right Used (whole_uses setting.at Condition condition) (statement_uses setting.at then_part ++ statement_uses setting.at otherwise) all in
        alike_within within (model.traversals number true (one_step (statement_step s setting level then_part)) ++ model.traversals number true (one_step (statement_step s setting level otherwise))) (traversals name true then_part ++ traversals name true otherwise)
        (alike_both true (model.traversals number true (one_step (statement_step s setting level then_part))) (model.traversals number true (one_step (statement_step s setting level otherwise))) (traversals name true then_part) (traversals name true otherwise)
        (statement_same true setting level text then_part (each_left Used (statement_uses setting.at then_part) (statement_uses setting.at otherwise) behind) (declared_left ds (in_statement type then_part) (in_statement type otherwise) inside))
        (statement_same true setting level text otherwise (each_right Used (statement_uses setting.at then_part) (statement_uses setting.at otherwise) behind) (declared_right ds (in_statement type then_part) (in_statement type otherwise) inside)))
    core_same within setting level text (CoreMatch word left expr close opening first rest end) all inside =
        let inner : AreUses s.units (whole_uses setting.at Condition expr ++ (arm_uses setting.at first ++ arm_row_uses setting.at rest)) = λ u h. all u (inr h) in
        let behind : AreUses s.units (arm_uses setting.at first ++ arm_row_uses setting.at rest) = each_right Used (whole_uses setting.at Condition expr) (arm_uses setting.at first ++ arm_row_uses setting.at rest) inner in
        alike_within within
        (model.traversals_of_arms number (arm_row s setting level first (arm_rows s setting level rest)) ++ model.traversals_of_maybe number (default_of s setting level first (default_in s setting level rest)))
        (arm_traversals name first ++ arm_row_traversals name rest)
        (first_arm_same setting level text first (each_left Used (arm_uses setting.at first) (arm_row_uses setting.at rest) behind) (declared_left ds (in_arm type first) (in_arm_row type rest) inside) (arm_rows s setting level rest) (default_in s setting level rest) (arm_row_traversals name rest)
        (arm_row_same setting level text rest (each_right Used (arm_uses setting.at first) (arm_row_uses setting.at rest) behind) (declared_right ds (in_arm type first) (in_arm_row type rest) inside)))
    core_same within setting level text (CoreBind bind) all inside = alike_none within

    row_same : (within : Bool) (setting : Setting) (level : ℕ) → Text setting → (t : StatementRow) → AreUses s.units (statement_row_uses setting.at t) → AreDeclared ds (in_statement_row type t) → Alike within (model.traversals_of_steps number within (row_steps s setting level t)) (row_traversals name within t)
    row_same within setting level text NoStatementRow all inside = alike_none within
    row_same within setting level text (MoreStatementRow head tail) all inside =
        subst (λ (m : List Bool). Alike within m (traversals name within head ++ row_traversals name within tail)) (sym (more_traversals number within (statement_step s setting level head) (row_steps s setting level tail)))
        (alike_both within (model.traversals number within (one_step (statement_step s setting level head))) (model.traversals_of_steps number within (row_steps s setting level tail)) (traversals name within head) (row_traversals name within tail)
        (statement_same within setting level text head (each_left Used (statement_uses setting.at head) (statement_row_uses setting.at tail) all) (declared_left ds (in_statement type head) (in_statement_row type tail) inside))
        (row_same within setting level text tail (each_right Used (statement_uses setting.at head) (statement_row_uses setting.at tail) all) (declared_right ds (in_statement type head) (in_statement_row type tail) inside)))

    branch_same : (setting : Setting) (level : ℕ) → Text setting → (t : BranchTree) → AreUses s.units (branch_uses setting.at t) → AreDeclared ds (in_branch type t) → Alike true (model.traversals_of_branch number (branch_step s setting level t)) (branch_traversals name t)
    branch_same setting level text (MakeBranch guard statement) all inside = statement_same true setting level text statement (each_right Used (option_uses (guard_uses setting.at) guard) (statement_uses setting.at statement) all) inside

    branch_row_same : (setting : Setting) (level : ℕ) → Text setting → (t : BranchRow) → AreUses s.units (branch_row_uses setting.at t) → AreDeclared ds (in_branch_row type t) → Alike true (model.traversals_of_branches number (branch_steps s setting level t)) (branch_row_traversals name t)
    branch_row_same setting level text NoBranchRow all inside = alike_none true
    branch_row_same setting level text (MoreBranchRow head tail) all inside =
        alike_both true (model.traversals_of_branch number (branch_step s setting level head)) (model.traversals_of_branches number (branch_steps s setting level tail)) (branch_traversals name head) (branch_row_traversals name tail)
        (branch_same setting level text head (each_left Used (branch_uses setting.at head) (branch_row_uses setting.at tail) all) (declared_left ds (in_branch type head) (in_branch_row type tail) inside))
        (branch_row_same setting level text tail (each_right Used (branch_uses setting.at head) (branch_row_uses setting.at tail) all) (declared_right ds (in_branch type head) (in_branch_row type tail) inside))

    first_arm_same : (setting : Setting) (level : ℕ) → Text setting → (arm : ArmTree) → AreUses s.units (arm_uses setting.at arm) → AreDeclared ds (in_arm type arm) → (row : step.ArmRow) (other : MaybeStep) (t : List Bool) → SameArms row other t
        → SameArms (arm_row s setting level arm row) (default_of s setting level arm other) (arm_traversals name arm ++ t)
    first_arm_same setting level text (MakeArm label colon statement) all inside row other t rest =
        arm_same setting level label colon statement row other t (statement_same true setting level text statement (each_right Used (arm_label_uses setting.at label) (statement_uses setting.at statement) all) inside) rest

    arm_row_same : (setting : Setting) (level : ℕ) → Text setting → (t : ArmRow) → AreUses s.units (arm_row_uses setting.at t) → AreDeclared ds (in_arm_row type t) → SameArms (arm_rows s setting level t) (default_in s setting level t) (arm_row_traversals name t)
    arm_row_same setting level text NoArmRow all inside = alike_none true
    arm_row_same setting level text (MoreArmRow head tail) all inside =
        first_arm_same setting level text head (each_left Used (arm_uses setting.at head) (arm_row_uses setting.at tail) all) (declared_left ds (in_arm type head) (in_arm_row type tail) inside) (arm_rows s setting level tail) (default_in s setting level tail) (arm_row_traversals name tail)
        (arm_row_same setting level text tail (each_right Used (arm_uses setting.at head) (arm_row_uses setting.at tail) all) (declared_right ds (in_arm type head) (in_arm_row type tail) inside))

  -- the statements of an activity
  pub statements_same : (setting : Setting) → Text setting → (ts : List StatementTree) → AreUses s.units (flat_map (statement_uses setting.at) ts) → AreDeclared ds (flat_map (in_statement type) ts)
      → Alike false (flat_map (model.traversals number false) (filter_map (statement_step s setting 0) ts)) (flat_map (traversals name false) ts)
  statements_same setting text [] all inside = alike_none false
  statements_same setting text (t ∷ more) all inside =
      subst (λ (m : List Bool). Alike false m (traversals name false t ++ flat_map (traversals name false) more)) (sym (cons_traversals number (statement_step s setting 0 t) (filter_map (statement_step s setting 0) more)))
      (alike_both false (model.traversals number false (one_step (statement_step s setting 0 t))) (flat_map (model.traversals number false) (filter_map (statement_step s setting 0) more)) (traversals name false t) (flat_map (traversals name false) more)
      (statement_same false setting 0 text t (each_left Used (statement_uses setting.at t) (flat_map (statement_uses setting.at) more) all) (declared_left ds (in_statement type t) (flat_map (in_statement type) more) inside))
      (statements_same setting text more (each_right Used (statement_uses setting.at t) (flat_map (statement_uses setting.at) more) all) (declared_right ds (in_statement type t) (flat_map (in_statement type) more) inside)))
