-- The places of each kind of statement.
use Rattle.std.proofs.Common.{◌≡◌, ℕ, ◌≤◌, List, [], map, length, Bool, Option, sym, ap, ◌∙◌, subst}
use Rattle.std.specs.Prelude.{if◌then◌else◌, slice_get}
use Rattle.std.specs.Global.{Vec, Box}
use Rattle.std.proofs.lemmas.Bool.{le-leb}
use Rattle.pst_model.specs.declared.activity.Step.{Step}
use Rattle.pst_model.specs.declared.activity.Step.TheVariants as the_step
use Rattle.pst_model.specs.declared.activity.Join.{Join}
use Rattle.pst_model.specs.declared.activity.Join.TheVariants.{Choose}
use Rattle.pst_model.specs.declared.activity.Branch.{Branch}
use Rattle.pst_model.specs.declared.activity.Arm.{Arm}
use Rattle.pst_model.specs.declared.constraint.Constraint.{Constraint}
use Rattle.pst_model.specs.ConstraintTree.{view_constraint}
use Rattle.pst_model.specs.ActivityTree.{StepTree, BranchTree, step_of}
use Rattle.pst_model.specs.ModelTree.{ModelTree}
use Rattle.pst_model.specs.ModelView.{view_step, view_branch, view_arm, maybe_step}
use Rattle.pst_scen.specs.declared.tree.Fill.TheVariants as fill
use Rattle.pst_legal.specs.Pieces.{Context, statements, mask, value_in}
use Rattle.pst_shape_parts.specs.declared.branches.Branches.{Branches}
use Rattle.pst_shape_parts.specs.Contexts.{view_numbered}
use Rattle.pst_legal.specs.Menus.{Weighted, branch_menu, Closed, plain, statement_menu, join_menu, block_menu, branches_menu, available, if_menu, match_menu}
use Rattle.pst_sound_parts.proofs.Rows.{steps_of_row, branches_of_row, arms_of_row, sequence_is, parallel_is, schedule_is, joined_is, select_is, if_is, match_is}

module _ (m : ModelTree) (c : Context) (s : Step) where
  pub sequence_menu : (v : Vec Step) → s ≡ the_step.Sequence v → statement_menu m c (view_step s) ≡ plain fill.Sequence (statements c (map view_step v.items))
  sequence_menu v e = ap (λ x. statement_menu m c (view_step x)) e ∙ ap (statement_menu m c) (sequence_is v) ∙ ap (λ xs. plain fill.Sequence (statements c xs)) (steps_of_row (map view_step v.items))

  pub parallel_menu : (v : Vec Step) → s ≡ the_step.Parallel v → statement_menu m c (view_step s) ≡ plain fill.Parallel (statements c (map view_step v.items))
  parallel_menu v e = ap (λ x. statement_menu m c (view_step x)) e ∙ ap (statement_menu m c) (parallel_is v) ∙ ap (λ xs. plain fill.Parallel (statements c xs)) (steps_of_row (map view_step v.items))

  pub schedule_menu : (v : Vec Step) → s ≡ the_step.Schedule v → statement_menu m c (view_step s) ≡ plain fill.Schedule (statements c (map view_step v.items))
  schedule_menu v e = ap (λ x. statement_menu m c (view_step x)) e ∙ ap (statement_menu m c) (schedule_is v) ∙ ap (λ xs. plain fill.Schedule (statements c xs)) (steps_of_row (map view_step v.items))

  pub joined_menu : (parallel : Bool) (join : Join) (v : Vec Step) → s ≡ the_step.Joined parallel join v → statement_menu m c (view_step s) ≡ block_menu c parallel join (map view_step v.items)
  joined_menu parallel join v e = ap (λ x. statement_menu m c (view_step x)) e ∙ ap (statement_menu m c) (joined_is parallel join v) ∙ ap (block_menu c parallel join) (steps_of_row (map view_step v.items))

  pub select_menu : (v : Vec Branch) → s ≡ the_step.Select v → statement_menu m c (view_step s) ≡ branches_menu c (available c (map view_branch v.items))
  select_menu v e = ap (λ x. statement_menu m c (view_step x)) e ∙ ap (statement_menu m c) (select_is v) ∙ ap (λ xs. branches_menu c (available c xs)) (branches_of_row (map view_branch v.items))

  pub if_statement : (condition : Constraint) (holds : Box Step) (fails : Option (Box Step)) → s ≡ the_step.If condition holds fails → statement_menu m c (view_step s) ≡ if_menu c (view_step holds.value) (step_of (maybe_step fails)) (value_in c (view_constraint condition))
  if_statement condition holds fails e = ap (λ x. statement_menu m c (view_step x)) e ∙ ap (statement_menu m c) (if_is condition holds fails)

  pub match_statement : (value : Constraint) (arms : Vec Arm) (other : Option (Box Step)) → s ≡ the_step.Match value arms other → statement_menu m c (view_step s) ≡ match_menu c (map view_arm arms.items) (step_of (maybe_step other)) (value_in c (view_constraint value))
  match_statement value arms other e = ap (λ x. statement_menu m c (view_step x)) e ∙ ap (statement_menu m c) (match_is value arms other) ∙ ap (λ xs. match_menu c xs (step_of (maybe_step other)) (value_in c (view_constraint value))) (arms_of_row (map view_arm arms.items))

pub chosen_block : (c : Context) (parallel : Bool) (join : Join) (steps : List StepTree) (count left : ℕ) (joined : List Bool) → join ≡ Choose count → left ≡ length steps → count ≤ left → joined ≡ [] → block_menu c parallel join steps ≡ join_menu (λ bits. plain (fill.Joined parallel (mask bits)) (statements c steps)) count left joined
chosen_block c parallel join steps count left joined ej el h eb =
    ap (λ j. block_menu c parallel j steps) ej
    ∙ ap (λ b. if b then join_menu (λ bits. plain (fill.Joined parallel (mask bits)) (statements c steps)) count (length steps) [] else Closed) (le-leb count (length steps) (subst (λ n. count ≤ n) el h))
    ∙ ap (λ n. join_menu (λ bits. plain (fill.Joined parallel (mask bits)) (statements c steps)) count n []) (sym el)
    ∙ ap (λ bs. join_menu (λ bits. plain (fill.Joined parallel (mask bits)) (statements c steps)) count left bs) (sym eb)

pub branches_same : (c : Context) (found : Branches) (avail : List (ℕ × BranchTree)) → map view_numbered found.branches.items ≡ avail → branches_menu c avail ≡ Weighted found.weights.items (λ k. branch_menu c (slice_get (map view_numbered found.branches.items) k))
branches_same c found avail e =
    ap (branches_menu c) (sym e)
    ∙ ap (λ ws. Weighted ws (λ k. branch_menu c (slice_get (map view_numbered found.branches.items) k))) (sym found.same)
