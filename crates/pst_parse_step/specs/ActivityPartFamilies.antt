-- The parsers of parts of activities for each size: each function of the program has one of these.
use Rattle.std.specs.Prelude.{ℕ, suc, List, Option}
use Rattle.pst_token.specs.declared.kind.Kind.TheVariants as kind
use Rattle.pst_ast.specs.declared.activity.EndNode.{EndNode}
use Rattle.pst_ast.specs.declared.activity.NextEnd.{NextEnd}
use Rattle.pst_ast.specs.ActivityTree.{CoreTree, GuardTree, WeightTree, ArmLabelTree, JoinTree, WithTree, BindTree, OtherEndsTree}
use Rattle.pst_reading.specs.Gives.{Family}
use Rattle.pst_reading.specs.Lists.{listed}
use Rattle.pst_reading.specs.Options.{option_by}
use Rattle.pst_parse_expr.specs.Constraints.{is_at, outermost_at, constraint_at}
use Rattle.pst_parse_step.specs.ActivityParts.{end_by, next_end_by, one_end_by, several_ends_by, other_ends_by, bind_by, branch_join_by, nothing_join_by, select_join_by, join_by, begins_join, weight_by, condition_guard_by, weight_guard_by, guard_by, begins_guard, ranges_label_by, default_label_by, arm_label_by, with_set_by, with_nothing_by, with_by, do_by, handle_by, bound_by}

-- ---- one part

abbrev pub end_family : ℕ → Family EndNode
end_family depth size prefixes = end_by depth

abbrev pub next_end_family : ℕ → Family NextEnd
next_end_family depth size prefixes = next_end_by depth

abbrev pub one_end_family : ℕ → Family OtherEndsTree
one_end_family depth size prefixes = one_end_by depth

abbrev pub several_ends_family : ℕ → Family OtherEndsTree
several_ends_family depth size prefixes = several_ends_by size depth

abbrev pub other_ends_family : ℕ → Family OtherEndsTree
other_ends_family depth size prefixes = other_ends_by size depth

abbrev pub bind_family : ℕ → Family BindTree
bind_family depth size prefixes = bind_by size depth

abbrev pub branch_join_family : ℕ → Family JoinTree
branch_join_family depth size prefixes = branch_join_by size depth

abbrev pub nothing_join_family : ℕ → Family JoinTree
nothing_join_family depth size prefixes = nothing_join_by depth

abbrev pub select_join_family : ℕ → Family JoinTree
select_join_family depth size prefixes = select_join_by (outermost_at (suc size)) depth

abbrev pub join_family : ℕ → Family JoinTree
join_family depth size prefixes = join_by (outermost_at (suc size)) size depth

abbrev pub weight_family : ℕ → Family WeightTree
weight_family depth size prefixes = weight_by (outermost_at (suc size)) depth

abbrev pub condition_guard_family : ℕ → Family GuardTree
condition_guard_family depth size prefixes = condition_guard_by (outermost_at (suc size)) depth

abbrev pub weight_guard_family : ℕ → Family GuardTree
weight_guard_family depth size prefixes = weight_guard_by (outermost_at (suc size)) depth

abbrev pub guard_family : ℕ → Family GuardTree
guard_family depth size prefixes = guard_by (outermost_at (suc size)) depth

abbrev pub ranges_label_family : ℕ → Family ArmLabelTree
ranges_label_family depth size prefixes = ranges_label_by size depth

abbrev pub default_label_family : ℕ → Family ArmLabelTree
default_label_family depth size prefixes = default_label_by depth

abbrev pub arm_label_family : ℕ → Family ArmLabelTree
arm_label_family depth size prefixes = arm_label_by size depth

abbrev pub with_set_family : ℕ → Family WithTree
with_set_family depth size prefixes = with_set_by (constraint_at (suc size)) depth

abbrev pub with_nothing_family : ℕ → Family WithTree
with_nothing_family depth size prefixes = with_nothing_by depth

abbrev pub with_family : ℕ → Family WithTree
with_family depth size prefixes = with_by (constraint_at (suc size)) depth

abbrev pub do_family : ℕ → Family CoreTree
do_family depth size prefixes = do_by (constraint_at (suc size)) depth

abbrev pub handle_family : ℕ → Family CoreTree
handle_family depth size prefixes = handle_by (constraint_at (suc size)) depth

abbrev pub bound_family : ℕ → Family CoreTree
bound_family depth size prefixes = bound_by size depth

-- ---- parts that may be left out

abbrev pub maybe_join_family : ℕ → Family (Option JoinTree)
maybe_join_family depth size prefixes = option_by begins_join (join_family depth size prefixes)

abbrev pub maybe_weight_family : ℕ → Family (Option WeightTree)
maybe_weight_family depth size prefixes = option_by (is_at kind.LeftBracket) (weight_family depth size prefixes)

abbrev pub maybe_guard_family : ℕ → Family (Option GuardTree)
maybe_guard_family depth size prefixes = option_by begins_guard (guard_family depth size prefixes)

-- ---- parts in a row

abbrev pub next_ends_family : ℕ → Family (List NextEnd)
next_ends_family depth = listed (is_at kind.Comma) (next_end_family depth)
