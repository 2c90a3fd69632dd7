-- The rows of the statements of activities are those of their lists.
use Rattle.std.proofs.Common.{◌≡◌, ℕ, ◌+◌, ◌<◌, List, [], ◌∷◌, ◌++◌, refl, sym, ap, ◌∙◌, map, length, append_assoc}
use Rattle.std.proofs.lemmas.List.{append-nil, drop_more}
use Rattle.std.specs.Prelude.{drop, get_or, Option, Some, None}
use Rattle.std.specs.List.{filter_map, cons_option}
use Rattle.std.specs.Global.{Box, Vec}
use Rattle.pst_base.specs.declared.position.Place.{Place}
use Rattle.pst_ast.specs.declared.activity.CoreNode.{Row_of-StatementNode, end_of-StatementNode, more_of-StatementNode, items-the_row-StatementNode, items_hidden-the_row-StatementNode-0, Row_of-BranchNode, end_of-BranchNode, more_of-BranchNode, items-the_row-BranchNode, items_hidden-the_row-BranchNode-1, Row_of-ArmNode, end_of-ArmNode, more_of-ArmNode, items-the_row-ArmNode, items_hidden-the_row-ArmNode-2}
use Rattle.pst_ast.specs.declared.activity.CoreNode.TheBlock.{hidden-the_row-StatementNode-0, hidden-the_row-BranchNode-1, hidden-the_row-ArmNode-2}
use Rattle.pst_ast.specs.declared.activity.CoreNode.TheVariants as the_core
use Rattle.pst_ast.specs.declared.activity.StatementNode.{StatementNode}
use Rattle.pst_ast.specs.declared.activity.BranchNode.{BranchNode}
use Rattle.pst_ast.specs.declared.activity.ArmNode.{ArmNode}
use Rattle.pst_ast.specs.declared.activity.JoinNode.{JoinNode}
use Rattle.pst_ast.specs.declared.activity.TogetherWord.{TogetherWord}
use Rattle.pst_ast.specs.declared.expression.ExprNode.{ExprNode}
use Rattle.pst_ast.specs.ActivityTree.{StatementTree, StatementRow, MoreStatementRow, ArmTree, MakeArm, ArmLabelTree, ArmLabelRanges, ArmLabelDefault}
use Rattle.pst_ast.specs.ActivityView.{view_arm, view_arm_row, view_branch, view_branch_row, view_core, view_join, view_statement, view_statement_row}
use Rattle.pst_ast.specs.ExpressionView.{view_expr}
use Rattle.std.specs.Option.{option_map}
use Rattle.pst_model.specs.ActivityTree as model
use Rattle.pst_model.specs.ConstraintTree.{ConstraintTree}
use Rattle.pst_terms.specs.Sources.{Sources}
use Rattle.pst_terms.specs.Readings.{Setting, expression_of}
use Rattle.pst_elab_rules.specs.Steps.{core_step, statement_step, one_step, more_steps, row_steps, branch_step, branch_steps, add_arm, arm_row as arm_before, arm_rows, default_of, default_in, together_step}
use Rattle.pst_elab_rules.specs.Spans.{range_spans}
use Rattle.pst_walk_parts.specs.Shown.{row_of, view_statements}
use Rattle.pst_step_forms.specs.Listed.{step_row, branch_row, arm_row, arm_by, arm_in, default_among, or_step, ArmsFound, with_arm, with_arms}

module _ (s : Sources) (setting : Setting) (level : ℕ) where
  -- ---- statements

  one_more : (o : Option model.StepTree) (xs : List model.StepTree) → more_steps o (step_row xs) ≡ step_row (cons_option o xs)
  one_more None xs = refl
  one_more (Some step) xs = refl

  pub rows_are : (statements : List StatementTree) → row_steps s setting level (row_of statements) ≡ step_row (filter_map (statement_step s setting level) statements)
  rows_are [] = refl
  rows_are (x ∷ xs) = ap (more_steps (statement_step s setting level x)) (rows_are xs) ∙ one_more (statement_step s setting level x) (filter_map (statement_step s setting level) xs)

  statement_row : {n : _} (k : Row_of-StatementNode n) → view_statement_row k ≡ row_of (map view_statement (items-the_row-StatementNode n k))
  statement_row end_of-StatementNode = refl
  statement_row (more_of-StatementNode head tail) = ap (λ (r : StatementRow). MoreStatementRow (view_statement head) r) (statement_row tail)

  statements_are : (v : Vec StatementNode) → view_statement_row (hidden-the_row-StatementNode-0 v) ≡ view_statements v.items
  statements_are v = statement_row (hidden-the_row-StatementNode-0 v) ∙ ap view_statements (items_hidden-the_row-StatementNode-0 v)

  pub sequence_step_is : (sequence : Option Place) (left : Place) (v : Vec StatementNode) (right : Place) → core_step s setting level (view_core (the_core.Sequence sequence left v right)) ≡ Some (model.Sequence (row_steps s setting level (view_statements v.items)))
  sequence_step_is sequence left v right = ap (λ (r : StatementRow). Some (model.Sequence (row_steps s setting level r))) (statements_are v)

  pub together_step_is : (word : TogetherWord) (place : Place) (join : Option JoinNode) (left : Place) (v : Vec StatementNode) (right : Place)
      → core_step s setting level (view_core (the_core.Together word place join left v right)) ≡ Some (together_step s word (option_map view_join join) (view_statements v.items) (row_steps s setting level (view_statements v.items)))
  together_step_is word place join left v right = ap (λ (r : StatementRow). Some (together_step s word (option_map view_join join) r (row_steps s setting level r))) (statements_are v)

  -- ---- branches

  branches_in : {n : _} (k : Row_of-BranchNode n) → branch_steps s setting level (view_branch_row k) ≡ branch_row (map (branch_step s setting level) (map view_branch (items-the_row-BranchNode n k)))
  branches_in end_of-BranchNode = refl
  branches_in (more_of-BranchNode guard statement tail) = ap (λ (r : model.BranchRow). model.MoreBranches (branch_step s setting level (view_branch (record { guard = guard; statement = statement }))) r) (branches_in tail)

  pub select_step_is : (select left : Place) (first : _) (v : Vec BranchNode) (right : Place)
      → core_step s setting level (view_core (the_core.Select select left first v right)) ≡ Some (model.Select (model.MoreBranches (branch_step s setting level (view_branch first.value)) (branch_row (map (branch_step s setting level) (map view_branch v.items)))))
  select_step_is select left first v right =
      ap (λ (r : model.BranchRow). Some (model.Select (model.MoreBranches (branch_step s setting level (view_branch first.value)) r)))
      (branches_in (hidden-the_row-BranchNode-1 v) ∙ ap (λ (xs : List BranchNode). branch_row (map (branch_step s setting level) (map view_branch xs))) (items_hidden-the_row-BranchNode-1 v))

  -- ---- arms

  one_arm : (label : ArmLabelTree) (step : model.StepTree) (arms : List model.ArmTree) → add_arm s label step (arm_row arms) ≡ arm_row (cons_option (arm_by s label step) arms)
  one_arm (ArmLabelRanges left ranges right) step arms = refl
  one_arm (ArmLabelDefault place) step arms = refl

  more_arms : (arm : ArmTree) (arms : List model.ArmTree) → arm_before s setting level arm (arm_row arms) ≡ arm_row (cons_option (arm_in s setting level arm) arms)
  more_arms (MakeArm label colon statement) arms = one_arm label (one_step (statement_step s setting level statement)) arms

  arms_in : {n : _} (k : Row_of-ArmNode n) → arm_rows s setting level (view_arm_row k) ≡ arm_row (filter_map (arm_in s setting level) (map view_arm (items-the_row-ArmNode n k)))
  arms_in end_of-ArmNode = refl
  arms_in (more_of-ArmNode label colon statement tail) =
      ap (arm_before s setting level (view_arm (record { label = label; colon = colon; statement = statement }))) (arms_in tail)
      ∙ more_arms (view_arm (record { label = label; colon = colon; statement = statement })) (filter_map (arm_in s setting level) (map view_arm (items-the_row-ArmNode _ tail)))

  defaults_in : {n : _} (k : Row_of-ArmNode n) → default_in s setting level (view_arm_row k) ≡ default_among s setting level (map view_arm (items-the_row-ArmNode n k))
  defaults_in end_of-ArmNode = refl
  defaults_in (more_of-ArmNode label colon statement tail) = ap (default_of s setting level (view_arm (record { label = label; colon = colon; statement = statement }))) (defaults_in tail)

  match_step_is : (match_place left_parenthesis : Place) (expr : ExprNode) (right_parenthesis left : Place) (first : _) (v : Vec ArmNode) (right : Place)
      → core_step s setting level (view_core (the_core.Match match_place left_parenthesis expr right_parenthesis left first v right))
      ≡ Some (model.Match (expression_of s setting (view_expr expr)) (arm_row (filter_map (arm_in s setting level) (view_arm first.value ∷ map view_arm v.items))) (default_among s setting level (view_arm first.value ∷ map view_arm v.items)))
  match_step_is match_place left_parenthesis expr right_parenthesis left first v right =
      let arms = arms_in (hidden-the_row-ArmNode-2 v) ∙ ap (λ (xs : List ArmNode). arm_row (filter_map (arm_in s setting level) (map view_arm xs))) (items_hidden-the_row-ArmNode-2 v) in
      let defaults = defaults_in (hidden-the_row-ArmNode-2 v) ∙ ap (λ (xs : List ArmNode). default_among s setting level (map view_arm xs)) (items_hidden-the_row-ArmNode-2 v) in
      ap (λ (r : model.ArmRow). Some (model.Match (expression_of s setting (view_expr expr)) (arm_before s setting level (view_arm first.value) r) (default_of s setting level (view_arm first.value) (default_in s setting level (view_arm_row (hidden-the_row-ArmNode-2 v)))))) arms
      ∙ ap (λ (r : model.ArmRow). Some (model.Match (expression_of s setting (view_expr expr)) r (default_of s setting level (view_arm first.value) (default_in s setting level (view_arm_row (hidden-the_row-ArmNode-2 v)))))) (more_arms (view_arm first.value) (filter_map (arm_in s setting level) (map view_arm v.items)))
      ∙ ap (λ (d : model.MaybeStep). Some (model.Match (expression_of s setting (view_expr expr)) (arm_row (filter_map (arm_in s setting level) (view_arm first.value ∷ map view_arm v.items))) (default_of s setting level (view_arm first.value) d))) defaults

  -- ---- arms one after another

  arms_after : (found : ArmsFound) (arm : ArmTree) (more : List model.ArmTree) → (with_arm s setting level found arm).arms ++ more ≡ found.arms ++ cons_option (arm_in s setting level arm) more
  arms_after found (MakeArm (ArmLabelRanges left ranges right) colon statement) more = append_assoc found.arms (model.MakeArm (range_spans s ranges) (one_step (statement_step s setting level statement)) ∷ []) more
  arms_after found (MakeArm (ArmLabelDefault place) colon statement) more = refl

  arms_with : (found : ArmsFound) (arms : List ArmTree) → (with_arms s setting level found arms).arms ≡ found.arms ++ filter_map (arm_in s setting level) arms
  arms_with found [] = sym (append-nil found.arms)
  arms_with found (arm ∷ more) = arms_with (with_arm s setting level found arm) more ∙ arms_after found arm (filter_map (arm_in s setting level) more)

  or_no : (o : model.MaybeStep) → or_step o model.NoStep ≡ o
  or_no model.NoStep = refl
  or_no (model.SomeStep step) = refl

  or_some : (o : model.MaybeStep) (step : model.StepTree) (more : model.MaybeStep) → or_step (or_step o (model.SomeStep step)) more ≡ or_step o (model.SomeStep step)
  or_some model.NoStep step more = refl
  or_some (model.SomeStep other) step more = refl

  other_after : (found : ArmsFound) (arm : ArmTree) (more : model.MaybeStep) → or_step (with_arm s setting level found arm).other more ≡ or_step found.other (default_of s setting level arm more)
  other_after found (MakeArm (ArmLabelRanges left ranges right) colon statement) more = refl
  other_after found (MakeArm (ArmLabelDefault place) colon statement) more = or_some found.other (one_step (statement_step s setting level statement)) more

  other_with : (found : ArmsFound) (arms : List ArmTree) → (with_arms s setting level found arms).other ≡ or_step found.other (default_among s setting level arms)
  other_with found [] = sym (or_no found.other)
  other_with found (arm ∷ more) = other_with (with_arm s setting level found arm) more ∙ other_after found arm (default_among s setting level more)

  abbrev arms_found : List ArmTree → ArmsFound
  arms_found arms = with_arms s setting level (record { arms = []; other = model.NoStep }) arms

  pub match_arms_are : (match_place left_parenthesis : Place) (expr : ExprNode) (right_parenthesis left : Place) (first : _) (v : Vec ArmNode) (right : Place)
      → core_step s setting level (view_core (the_core.Match match_place left_parenthesis expr right_parenthesis left first v right))
      ≡ Some (model.Match (expression_of s setting (view_expr expr)) (arm_row (arms_found (view_arm first.value ∷ map view_arm v.items)).arms) (arms_found (view_arm first.value ∷ map view_arm v.items)).other)
  match_arms_are match_place left_parenthesis expr right_parenthesis left first v right =
      let all = view_arm first.value ∷ map view_arm v.items in
      match_step_is match_place left_parenthesis expr right_parenthesis left first v right
      ∙ sym (ap (λ (xs : List model.ArmTree). Some (model.Match (expression_of s setting (view_expr expr)) (arm_row xs) (default_among s setting level all))) (arms_with (record { arms = []; other = model.NoStep }) all))
      ∙ sym (ap (λ (d : model.MaybeStep). Some (model.Match (expression_of s setting (view_expr expr)) (arm_row (arms_found all).arms) d)) (other_with (record { arms = []; other = model.NoStep }) all))

  -- ---- choices as the program finds them

  pub select_found : (select left : Place) (first : Box BranchNode) (v : Vec BranchNode) (right : Place) (within : Setting) (none one all : List model.BranchTree) → within ≡ setting → none ≡ []
      → one ≡ none ++ branch_step s setting level (view_branch first.value) ∷ [] → all ≡ one ++ map (branch_step s within level) (map view_branch v.items)
      → Some (model.Select (branch_row all)) ≡ core_step s setting level (view_core (the_core.Select select left first v right))
  select_found select left first v right within none one all kept nones ones alls =
      let rest = λ (st : Setting). map (branch_step s st level) (map view_branch v.items) in
      let head = branch_step s setting level (view_branch first.value) in
      ap (λ (bs : List model.BranchTree). Some (model.Select (branch_row bs)))
      (alls ∙ ap (λ (st : Setting). one ++ rest st) kept ∙ ap (λ (bs : List model.BranchTree). bs ++ rest setting) (ones ∙ ap (λ (bs : List model.BranchTree). bs ++ head ∷ []) nones))
      ∙ sym (select_step_is select left first v right)

  pub match_found : (match_place left_parenthesis : Place) (expr : ExprNode) (right_parenthesis left : Place) (first : Box ArmNode) (v : Vec ArmNode) (right : Place) (value : ConstraintTree) (within : Setting) (none one all : ArmsFound)
      → value ≡ expression_of s setting (view_expr expr) → within ≡ setting → none ≡ record { arms = []; other = model.NoStep } → one ≡ with_arm s setting level none (view_arm first.value)
      → all ≡ with_arms s within level one (map view_arm v.items)
      → Some (model.Match value (arm_row all.arms) all.other) ≡ core_step s setting level (view_core (the_core.Match match_place left_parenthesis expr right_parenthesis left first v right))
  match_found match_place left_parenthesis expr right_parenthesis left first v right value within none one all values kept nones ones alls =
      let rest = map view_arm v.items in
      let found = alls ∙ ap (λ (st : Setting). with_arms s st level one rest) kept
      ∙ ap (λ (f : ArmsFound). with_arms s setting level f rest) (ones ∙ ap (λ (f : ArmsFound). with_arm s setting level f (view_arm first.value)) nones) in
      ap (λ (f : ArmsFound). Some (model.Match value (arm_row f.arms) f.other)) found
      ∙ ap (λ (k : ConstraintTree). Some (model.Match k (arm_row (arms_found (view_arm first.value ∷ rest)).arms) (arms_found (view_arm first.value ∷ rest)).other)) values
      ∙ sym (match_arms_are match_place left_parenthesis expr right_parenthesis left first v right)

  -- ---- one after another

  after_option : (o : Option model.StepTree) (old rest : List model.StepTree) → (old ++ cons_option o []) ++ rest ≡ old ++ cons_option o rest
  after_option None old rest = ap (λ (xs : List model.StepTree). xs ++ rest) (append-nil old)
  after_option (Some step) old rest = append_assoc old (step ∷ []) rest

  pub steps_more : (within : Setting) (old new total : List model.StepTree) (step : Option model.StepTree) (items : List StatementNode) (i : ℕ) (item : StatementNode) → i < length items → item ≡ get_or items i item
      → within ≡ setting → step ≡ statement_step s within level (view_statement item) → new ≡ old ++ cons_option step []
      → old ++ filter_map (statement_step s setting level) (map view_statement (drop i items)) ≡ total → new ++ filter_map (statement_step s setting level) (map view_statement (drop (i + 1) items)) ≡ total
  steps_more within old new total step items i item inside at kept steps is e =
      let rest = filter_map (statement_step s setting level) (map view_statement (drop (i + 1) items)) in
      ap (λ (xs : List model.StepTree). xs ++ rest) is
      ∙ after_option step old rest
      ∙ ap (λ (o : Option model.StepTree). old ++ cons_option o rest) (steps ∙ ap (λ (st : Setting). statement_step s st level (view_statement item)) kept)
      ∙ ap (λ (x : StatementNode). old ++ cons_option (statement_step s setting level (view_statement x)) rest) at
      ∙ ap (λ (xs : List StatementNode). old ++ filter_map (statement_step s setting level) (map view_statement xs)) (sym (drop_more items i item inside))
      ∙ e

  pub branches_more : (within : Setting) (old new total : List model.BranchTree) (items : List BranchNode) (i : ℕ) (item : BranchNode) → i < length items → item ≡ get_or items i item
      → within ≡ setting → new ≡ old ++ branch_step s within level (view_branch item) ∷ []
      → old ++ map (branch_step s setting level) (map view_branch (drop i items)) ≡ total → new ++ map (branch_step s setting level) (map view_branch (drop (i + 1) items)) ≡ total
  branches_more within old new total items i item inside at kept is e =
      let rest = map (branch_step s setting level) (map view_branch (drop (i + 1) items)) in
      ap (λ (xs : List model.BranchTree). xs ++ rest) (is ∙ ap (λ (st : Setting). old ++ branch_step s st level (view_branch item) ∷ []) kept)
      ∙ append_assoc old (branch_step s setting level (view_branch item) ∷ []) rest
      ∙ ap (λ (x : BranchNode). old ++ branch_step s setting level (view_branch x) ∷ rest) at
      ∙ ap (λ (xs : List BranchNode). old ++ map (branch_step s setting level) (map view_branch xs)) (sym (drop_more items i item inside))
      ∙ e

  pub arms_more : (within : Setting) (old new total : ArmsFound) (items : List ArmNode) (i : ℕ) (item : ArmNode) → i < length items → item ≡ get_or items i item
      → within ≡ setting → new ≡ with_arm s within level old (view_arm item)
      → with_arms s setting level old (map view_arm (drop i items)) ≡ total → with_arms s setting level new (map view_arm (drop (i + 1) items)) ≡ total
  arms_more within old new total items i item inside at kept is e =
      let rest = map view_arm (drop (i + 1) items) in
      ap (λ (f : ArmsFound). with_arms s setting level f rest) (is ∙ ap (λ (st : Setting). with_arm s st level old (view_arm item)) kept)
      ∙ ap (λ (x : ArmNode). with_arms s setting level (with_arm s setting level old (view_arm x)) rest) at
      ∙ ap (λ (xs : List ArmNode). with_arms s setting level old (map view_arm xs)) (sym (drop_more items i item inside))
      ∙ e
