use Rattle.std.proofs.Common.{arith, rules, ◌-◌, ◌+◌, true, false, ◌≡◌, ◌∙◌, subst, sym, Ok, Err}
use Rattle.std.specs.Prelude.{map}
use Rattle.std.proofs.lemmas.List.{map-append}
use Rattle.std.proofs.lemmas.Result.{err_from_is_err_and}
use Rattle.pst_token.specs.declared.kind.Kind.TheVariants as kind
use Rattle.pst_ast.specs.ActivityView.{view_with, view_statement, view_core, view_branch, view_arm}
use Rattle.pst_ast.specs.ActivityProper.{core_ends_open, statement_ends_open}
use Rattle.pst_reading.proofs.Giving.{later, later_fault}
use Rattle.pst_reading.proofs.Lists.{list_begins, list_turns, list_fails, list_ends}
use Rattle.pst_reading.proofs.Reaching.{begin, choose, reads_open_on}
use Rattle.pst_parse_expr.specs.Constraints.{is_other}
use Rattle.pst_parse_step.specs.ActivityPartFamilies.{do_family, handle_family, bound_family}
use Rattle.pst_parse_statement.specs.ActivityFamilies.{nested_family, sequence_family, branch_family, select_family, repeated_family, if_family, arm_family, match_family, core_family, empty_family, named_family, plain_family, statement_family, together_family, statements_family, branches_family, arms_family, view_statements, view_branches, view_arms}
use Rattle.pst_parse_statement.proofs.ActivityRules.{arm_colon_fails, arm_given, arm_label_fails, arm_statement_fails, branch_given, branch_guard_fails, branch_statement_fails, else_given, else_statement_fails, else_word_fails, handle_given, handle_with_fails}
use Rattle.pst_parse_statement.proofs.ActivityRules.{if_closing_fails, if_condition_fails, if_given, if_opening_fails, if_statement_fails, if_word_fails, label_colon_fails, label_core_fails, label_given}
use Rattle.pst_parse_statement.proofs.ActivityRules.{match_brace_fails, match_closing_fails, match_end_fails, match_first_fails, match_given, match_opening_fails, match_rest_fails, match_value_fails, match_word_fails, named_name_fails, plain_core_fails, plain_given}
use Rattle.pst_parse_statement.proofs.ActivityRules.{repeat_given, repeat_statement_fails, repeat_times_fail, repeat_word_fails, select_brace_fails, select_end_fails, select_first_fails, select_given, select_rest_fails, select_word_fails}
use Rattle.pst_parse_statement.proofs.ActivityRules.{sequence_brace_fails, sequence_end_fails, sequence_given, sequence_statements_fail, sequence_word_fails, together_brace_fails, together_end_fails, together_given, together_join_fails, together_statements_fail, together_word_fails}
use Rattle.pst_token.specs.declared.kind.Kind.{Kind}
use Rattle.pst_ast.specs.declared.activity.TogetherWord.TheVariants as the_together_word
use Rattle.pst_ast.specs.Limits.{counted}
use Rattle.pst_reading.specs.Parser.{mark_by}
use Rattle.pst_reading.specs.Gives.{Expects}
use Rattle.pst_parse_statement.proofs.ActivityCores.{bind_here, brace_here, do_here, handle_here, if_here, match_here, parallel_here, repeat_here, schedule_here, select_here, sequence_here}
use Rattle.pst_parse_statement.proofs.ActivityLooks.{name_decides, earlier, earlier_fault}
use Rattle.pst_parse_statement.proofs.ActivityNested.{statement_nested, statement_nested_fails}
use Rattle.pst_parse_member.proofs.Kept.{part_fault, part_read, token_fault, token_read, first_kept, second_kept}
use Rattle.pst_parse_statement.proofs.Kept.{boxed_fault, boxed_open_fault, open_fault, open_read}
use Rattle.pst_parse_statement.proofs.ActivityViews.{sequence_view, together_view, select_view, match_view}
use Rattle.pst_parse_act.proofs.activity.+activity.Goals as goal

pub sequence_core-returns-in_err-sequence : goal.sequence_core-returns-in_err-sequence
sequence_core-returns-in_err-sequence t c =
    let p = err_from_is_err_and c.from_residual.result c.from_residual.ensures.1 in
    rw (p.1, p.2) (sequence_word_fails c.args.tokens.now c.args.at c.args.depth c.in_err-sequence.field-0.0 c.in_err-sequence.ensures)

pub sequence_core-returns-in_err-left_brace : goal.sequence_core-returns-in_err-left_brace
sequence_core-returns-in_err-left_brace t c =
    let p = err_from_is_err_and c.from_residual-in_err-left_brace.result c.from_residual-in_err-left_brace.ensures.1 in
    rw (p.1, p.2) (sequence_brace_fails c.args.tokens.now c.args.at c.args.depth c.in_ok-sequence.ensures c.in_err-left_brace.field-0.0 c.in_err-left_brace.ensures.reads)

pub sequence_core-returns-in_err-listed : goal.sequence_core-returns-in_err-listed
sequence_core-returns-in_err-listed t c =
    let p = err_from_is_err_and c.from_residual-in_err-listed.result c.from_residual-in_err-listed.ensures.1 in
    rw (p.1, p.2) (sequence_statements_fail c.args.tokens.now c.args.at c.args.depth c.in_ok-sequence.ensures c.in_ok-left_brace.left_brace c.in_ok-left_brace.ensures.reads c.in_err-listed.field-0.0 c.in_err-listed.ensures)

pub sequence_core-returns-in_err-statements : goal.sequence_core-returns-in_err-statements
sequence_core-returns-in_err-statements t c =
    let p = err_from_is_err_and c.from_residual-in_err-statements.result c.from_residual-in_err-statements.ensures.1 in
    let closing = token_fault (mark_by kind.RightBrace (counted c.args.depth 0)) c.args.tokens.now c.in_ok-listed.after _ _ c.in_err-statements.ensures.err c.expect-closing.ensures.reads in
    rw (p.1, p.2) (sequence_end_fails c.args.tokens.now c.args.at c.args.depth c.in_ok-sequence.ensures c.in_ok-left_brace.left_brace c.in_ok-left_brace.ensures.reads c.in_ok-listed.ensures c.in_err-statements.field-0.0 closing)

pub sequence_core-returns : goal.sequence_core-returns
sequence_core-returns t c =
    let closing = token_read (mark_by kind.RightBrace (counted c.args.depth 0)) c.args.tokens.now c.in_ok-listed.after _ _ c.in_ok-statements.ensures.ok.1 c.expect-closing.ensures.reads in
    record {
      settles = rw (sequence_view, c.in_ok-statements.ensures.ok.0) (sequence_given c.args.tokens.now c.args.at c.args.depth c.in_ok-sequence.ensures c.in_ok-left_brace.left_brace c.in_ok-left_brace.ensures.reads c.in_ok-listed.ensures c.in_ok-statements.right_brace closing);
      after = omega (arith, c.in_ok-sequence.ensures.after, c.in_ok-listed.ensures.after);
      inside = closing.1;
      no_else = λ opens. absurd cc;
    }

pub together_core-returns-in_err-place : goal.together_core-returns-in_err-place
together_core-returns-in_err-place t c =
    let p = err_from_is_err_and c.from_residual.result c.from_residual.ensures.1 in
    let word = subst (λ (k : Kind). Expects (mark_by k (counted c.args.depth 0)) c.args.tokens.now c.args.at (Err c.in_err-place.field-0.0)) c.word_kind-kind.ensures c.in_err-place.ensures.reads in
    rw (p.1, p.2) (together_word_fails c.args.tokens.now c.args.at c.args.depth c.args.word c.in_err-place.field-0.0 c.requires.inside word)

pub together_core-returns-in_err-form : goal.together_core-returns-in_err-form
together_core-returns-in_err-form t c =
    let p = err_from_is_err_and c.from_residual-in_err-form.result c.from_residual-in_err-form.ensures.1 in
    let word = subst (λ (k : Kind). Expects (mark_by k (counted c.args.depth 0)) c.args.tokens.now c.args.at (Ok c.in_ok-place.place)) c.word_kind-kind.ensures c.in_ok-place.ensures.reads in
    rw (p.1, p.2) (together_join_fails c.args.tokens.now c.args.at c.args.depth c.args.word c.in_ok-place.place word c.in_err-form.field-0.0 c.in_err-form.ensures)

pub together_core-returns-in_err-front : goal.together_core-returns-in_err-front
together_core-returns-in_err-front t c =
    let p = err_from_is_err_and c.from_residual-in_err-front.result c.from_residual-in_err-front.ensures.1 in
    let word = subst (λ (k : Kind). Expects (mark_by k (counted c.args.depth 0)) c.args.tokens.now c.args.at (Ok c.in_ok-place.place)) c.word_kind-kind.ensures c.in_ok-place.ensures.reads in
    let opening = token_fault (mark_by kind.LeftBrace (counted c.args.depth 0)) c.args.tokens.now c.in_ok-form.behind _ _ c.in_err-front.ensures.err c.expect-opening.ensures.reads in
    rw (p.1, p.2) (together_brace_fails c.args.tokens.now c.args.at c.args.depth c.args.word c.in_ok-place.place word c.in_ok-form.ensures c.in_err-front.field-0.0 opening)

pub together_core-returns-in_err-kept : goal.together_core-returns-in_err-kept
together_core-returns-in_err-kept t c =
    let p = err_from_is_err_and c.from_residual-in_err-kept.result c.from_residual-in_err-kept.ensures.1 in
    let word = subst (λ (k : Kind). Expects (mark_by k (counted c.args.depth 0)) c.args.tokens.now c.args.at (Ok c.in_ok-place.place)) c.word_kind-kind.ensures c.in_ok-place.ensures.reads in
    let opening = token_read (mark_by kind.LeftBrace (counted c.args.depth 0)) c.args.tokens.now c.in_ok-form.behind _ _ c.in_ok-front.ensures.ok.1 c.expect-opening.ensures.reads in
    let block = part_fault view_statements (statements_family c.args.depth) c.args.tokens.now (c.in_ok-form.behind + 1 - 1) (c.in_ok-form.behind + 1) 0 _ _ c.in_err-kept.ensures.err c.statements-block.ensures in
    rw (p.1, p.2) (together_statements_fail c.args.tokens.now c.args.at c.args.depth c.args.word c.in_ok-place.place word c.in_ok-form.ensures c.in_ok-front.left_brace opening c.in_err-kept.field-0.0 block)

pub together_core-returns-in_err-join : goal.together_core-returns-in_err-join
together_core-returns-in_err-join t c =
    let p = err_from_is_err_and c.from_residual-in_err-join.result c.from_residual-in_err-join.ensures.1 in
    let word = subst (λ (k : Kind). Expects (mark_by k (counted c.args.depth 0)) c.args.tokens.now c.args.at (Ok c.in_ok-place.place)) c.word_kind-kind.ensures c.in_ok-place.ensures.reads in
    let opening = token_read (mark_by kind.LeftBrace (counted c.args.depth 0)) c.args.tokens.now c.in_ok-form.behind _ _ c.in_ok-front.ensures.ok.1 c.expect-opening.ensures.reads in
    let block = part_read view_statements (statements_family c.args.depth) c.args.tokens.now (c.in_ok-form.behind + 1 - 1) (c.in_ok-form.behind + 1) 0 _ _ c.in_ok-kept.ensures.ok.1 c.statements-block.ensures in
    let closing = token_fault (mark_by kind.RightBrace (counted c.args.depth 0)) c.args.tokens.now c.in_ok-kept.after _ _ c.in_err-join.ensures.err c.expect-closing.ensures.reads in
    rw (p.1, p.2) (together_end_fails c.args.tokens.now c.args.at c.args.depth c.args.word c.in_ok-place.place word c.in_ok-form.ensures c.in_ok-front.left_brace opening block c.in_err-join.field-0.0 closing)

pub together_core-returns : goal.together_core-returns
together_core-returns t c =
    let word = subst (λ (k : Kind). Expects (mark_by k (counted c.args.depth 0)) c.args.tokens.now c.args.at (Ok c.in_ok-place.place)) c.word_kind-kind.ensures c.in_ok-place.ensures.reads in
    let opening = token_read (mark_by kind.LeftBrace (counted c.args.depth 0)) c.args.tokens.now c.in_ok-form.behind _ _ c.in_ok-front.ensures.ok.1 c.expect-opening.ensures.reads in
    let block = part_read view_statements (statements_family c.args.depth) c.args.tokens.now (c.in_ok-form.behind + 1 - 1) (c.in_ok-form.behind + 1) 0 _ _ c.in_ok-kept.ensures.ok.1 c.statements-block.ensures in
    let closing = token_read (mark_by kind.RightBrace (counted c.args.depth 0)) c.args.tokens.now c.in_ok-kept.after _ _ c.in_ok-join.ensures.ok.1 c.expect-closing.ensures.reads in
    let join = first_kept _ _ c.in_ok-join.ensures.ok.0 ∙ c.in_ok-kept.ensures.ok.0 ∙ c.in_ok-front.ensures.ok.0 in
    let statements = second_kept _ _ c.in_ok-join.ensures.ok.0 in
    record {
      settles = rw (together_view, join, statements) (together_given c.args.tokens.now c.args.at c.args.depth c.args.word c.in_ok-place.place word c.in_ok-form.ensures c.in_ok-front.left_brace opening block c.in_ok-join.right_brace closing);
      after = omega (arith, c.in_ok-form.ensures.after, block.after);
      inside = closing.1;
      no_else = λ opens. absurd cc;
    }

pub branch-returns-in_err-asked : goal.branch-returns-in_err-asked
branch-returns-in_err-asked t c =
    let p = err_from_is_err_and c.from_residual.result c.from_residual.ensures.1 in
    rw (p.1, p.2) (branch_guard_fails c.args.tokens.now c.args.at c.args.depth c.requires.behind (c.args.depth + 1) (omega arith) c.in_err-asked.field-0.0 c.in_err-asked.ensures)

pub branch-returns-in_err-guard : goal.branch-returns-in_err-guard
branch-returns-in_err-guard t c =
    let p = err_from_is_err_and c.from_residual-in_err-guard.result c.from_residual-in_err-guard.ensures.1 in
    let chosen = open_fault view_statement statement_ends_open (statement_family (c.args.depth + 1)) c.args.tokens.now c.in_ok-asked.behind c.in_ok-asked.behind _ _ c.in_err-guard.ensures.err c.statement-chosen.ensures in
    rw (p.1, p.2) (branch_statement_fails c.args.tokens.now c.args.at c.args.depth c.requires.behind (c.args.depth + 1) (omega arith) c.in_ok-asked.ensures c.in_err-guard.field-0.0 chosen)

pub branch-returns : goal.branch-returns
branch-returns t c =
    let chosen = open_read view_statement statement_ends_open (statement_family (c.args.depth + 1)) c.args.tokens.now c.in_ok-asked.behind c.in_ok-asked.behind _ _ c.in_ok-guard.ensures.ok.1 c.statement-chosen.ensures in
    record {
      settles = rw c.in_ok-guard.ensures.ok.0 (branch_given c.args.tokens.now c.args.at c.args.depth c.requires.behind (c.args.depth + 1) (omega arith) c.in_ok-asked.ensures chosen);
      after = omega (arith, c.in_ok-asked.ensures.after, chosen.after);
      inside = chosen.inside;
    }

pub branches-all-init : goal.branches-all-init
branches-all-init t c = rw c.new-all.ensures.items (list_begins (is_other kind.RightBrace) (branch_family c.args.depth) c.args.tokens.now (c.args.at - 1) c.args.at (omega (arith, c.requires.behind)) c.requires.inside)

pub branches-returns-in_err-grown : goal.branches-returns-in_err-grown
branches-returns-in_err-grown t c =
    let p = err_from_is_err_and c.from_residual.result c.from_residual.ensures.1 in
    let l = c.all.invariant in
    let fault = boxed_fault view_branch (branch_family c.args.depth) c.args.tokens.now (c.all.place - 1) c.all.place 1 _ _ c.in_err-grown.ensures.err c.branch-next.ensures in
    rw (p.1, p.2) (list_fails (is_other kind.RightBrace) (branch_family c.args.depth) c.args.tokens.now (c.args.at - 1) c.args.at (map view_branch c.all.all.items) c.all.place l (search rules) c.in_err-grown.field-0.0 (earlier_fault (branch_family c.args.depth) c.args.tokens.now (c.args.at - 1) (c.all.place - 1) c.all.place c.in_err-grown.field-0.0 (omega (arith, l.reached)) fault))

pub branches-all-preserved : goal.branches-all-preserved
branches-all-preserved t c =
    let l = c.all.invariant in
    let more = c.in_ok-grown.ensures.ok in
    let read = part_read view_branch (branch_family c.args.depth) c.args.tokens.now (c.all.place - 1) c.all.place 1 _ _ more.1 c.branch-next.ensures in
    let settles = earlier (branch_family c.args.depth) c.args.tokens.now (c.args.at - 1) (c.all.place - 1) c.all.place _ (omega (arith, l.reached)) read.settles in
    rw (more.2, map-append) (list_turns (is_other kind.RightBrace) (branch_family c.args.depth) c.args.tokens.now (c.args.at - 1) c.args.at (map view_branch c.all.all.items) c.all.place l (search rules) (view_branch more.0) c.in_ok-grown.after settles (omega (arith, read.after)) read.inside)

pub branches-returns : goal.branches-returns
branches-returns t c =
    let l = c.all.invariant in
    record {
      settles = list_ends (is_other kind.RightBrace) (branch_family c.args.depth) c.args.tokens.now (c.args.at - 1) c.args.at (map view_branch c.all.all.items) c.all.place l (search rules);
      after = omega (arith, l.reached);
      inside = l.inside;
    }

pub select_core-returns-in_err-select : goal.select_core-returns-in_err-select
select_core-returns-in_err-select t c =
    let p = err_from_is_err_and c.from_residual.result c.from_residual.ensures.1 in
    rw (p.1, p.2) (select_word_fails c.args.tokens.now c.args.at c.args.depth c.in_err-select.field-0.0 c.requires.inside c.in_err-select.ensures.reads)

pub select_core-returns-in_err-left_brace : goal.select_core-returns-in_err-left_brace
select_core-returns-in_err-left_brace t c =
    let p = err_from_is_err_and c.from_residual-in_err-left_brace.result c.from_residual-in_err-left_brace.ensures.1 in
    rw (p.1, p.2) (select_brace_fails c.args.tokens.now c.args.at c.args.depth c.in_ok-select.select c.in_ok-select.ensures.reads c.in_err-left_brace.field-0.0 c.in_err-left_brace.ensures.reads)

pub select_core-returns-in_err-head : goal.select_core-returns-in_err-head
select_core-returns-in_err-head t c =
    let p = err_from_is_err_and c.from_residual-in_err-head.result c.from_residual-in_err-head.ensures.1 in
    let head = boxed_fault view_branch (branch_family c.args.depth) c.args.tokens.now (c.args.at + 2 - 1) (c.args.at + 2) 1 _ _ c.in_err-head.ensures.err c.branch-one.ensures in
    rw (p.1, p.2) (select_first_fails c.args.tokens.now c.args.at c.args.depth c.in_ok-select.select c.in_ok-select.ensures.reads c.in_ok-left_brace.left_brace c.in_ok-left_brace.ensures.reads c.in_err-head.field-0.0 head)

pub select_core-returns-in_err-kept : goal.select_core-returns-in_err-kept
select_core-returns-in_err-kept t c =
    let p = err_from_is_err_and c.from_residual-in_err-kept.result c.from_residual-in_err-kept.ensures.1 in
    let head = part_read view_branch (branch_family c.args.depth) c.args.tokens.now (c.args.at + 2 - 1) (c.args.at + 2) 1 _ _ c.in_ok-head.ensures.ok c.branch-one.ensures in
    let others = part_fault view_branches (branches_family c.args.depth) c.args.tokens.now (c.in_ok-head.behind - 1) c.in_ok-head.behind 0 _ _ c.in_err-kept.ensures.err c.branches-others.ensures in
    rw (p.1, p.2) (select_rest_fails c.args.tokens.now c.args.at c.args.depth c.in_ok-select.select c.in_ok-select.ensures.reads c.in_ok-left_brace.left_brace c.in_ok-left_brace.ensures.reads head c.in_err-kept.field-0.0 others)

pub select_core-returns-in_err-first : goal.select_core-returns-in_err-first
select_core-returns-in_err-first t c =
    let p = err_from_is_err_and c.from_residual-in_err-first.result c.from_residual-in_err-first.ensures.1 in
    let head = part_read view_branch (branch_family c.args.depth) c.args.tokens.now (c.args.at + 2 - 1) (c.args.at + 2) 1 _ _ c.in_ok-head.ensures.ok c.branch-one.ensures in
    let others = part_read view_branches (branches_family c.args.depth) c.args.tokens.now (c.in_ok-head.behind - 1) c.in_ok-head.behind 0 _ _ c.in_ok-kept.ensures.ok.1 c.branches-others.ensures in
    let closing = token_fault (mark_by kind.RightBrace (counted c.args.depth 0)) c.args.tokens.now c.in_ok-kept.after _ _ c.in_err-first.ensures.err c.expect-closing.ensures.reads in
    rw (p.1, p.2) (select_end_fails c.args.tokens.now c.args.at c.args.depth c.in_ok-select.select c.in_ok-select.ensures.reads c.in_ok-left_brace.left_brace c.in_ok-left_brace.ensures.reads head others c.in_err-first.field-0.0 closing)

pub select_core-returns : goal.select_core-returns
select_core-returns t c =
    let head = part_read view_branch (branch_family c.args.depth) c.args.tokens.now (c.args.at + 2 - 1) (c.args.at + 2) 1 _ _ c.in_ok-head.ensures.ok c.branch-one.ensures in
    let others = part_read view_branches (branches_family c.args.depth) c.args.tokens.now (c.in_ok-head.behind - 1) c.in_ok-head.behind 0 _ _ c.in_ok-kept.ensures.ok.1 c.branches-others.ensures in
    let closing = token_read (mark_by kind.RightBrace (counted c.args.depth 0)) c.args.tokens.now c.in_ok-kept.after _ _ c.in_ok-first.ensures.ok.1 c.expect-closing.ensures.reads in
    let first = first_kept _ _ c.in_ok-first.ensures.ok.0 ∙ c.in_ok-kept.ensures.ok.0 in
    let rest = second_kept _ _ c.in_ok-first.ensures.ok.0 in
    record {
      settles = rw (select_view, first, rest) (select_given c.args.tokens.now c.args.at c.args.depth c.in_ok-select.select c.in_ok-select.ensures.reads c.in_ok-left_brace.left_brace c.in_ok-left_brace.ensures.reads head others c.in_ok-first.right_brace closing);
      after = omega (arith, head.after, others.after);
      inside = closing.1;
      no_else = λ opens. absurd cc;
    }

pub repeat_core-returns-in_err-repeat : goal.repeat_core-returns-in_err-repeat
repeat_core-returns-in_err-repeat t c =
    let p = err_from_is_err_and c.from_residual.result c.from_residual.ensures.1 in
    rw (p.1, p.2) (repeat_word_fails c.args.tokens.now c.args.at c.args.depth (c.args.depth + 1) (omega arith) c.in_err-repeat.field-0.0 c.requires.inside c.in_err-repeat.ensures.reads)

pub repeat_core-returns-in_err-counted : goal.repeat_core-returns-in_err-counted
repeat_core-returns-in_err-counted t c =
    let p = err_from_is_err_and c.from_residual-in_err-counted.result c.from_residual-in_err-counted.ensures.1 in
    rw (p.1, p.2) (repeat_times_fail c.args.tokens.now c.args.at c.args.depth (c.args.depth + 1) (omega arith) c.in_ok-repeat.repeat c.in_ok-repeat.ensures.reads c.in_err-counted.field-0.0 c.in_err-counted.ensures)

pub repeat_core-returns-in_err-times : goal.repeat_core-returns-in_err-times
repeat_core-returns-in_err-times t c =
    let p = err_from_is_err_and c.from_residual-in_err-times.result c.from_residual-in_err-times.ensures.1 in
    let turn = boxed_open_fault view_statement statement_ends_open (statement_family (c.args.depth + 1)) c.args.tokens.now c.in_ok-counted.behind c.in_ok-counted.behind _ _ c.in_err-times.ensures.err c.statement-turn.ensures in
    rw (p.1, p.2) (repeat_statement_fails c.args.tokens.now c.args.at c.args.depth (c.args.depth + 1) (omega arith) c.in_ok-repeat.repeat c.in_ok-repeat.ensures.reads c.in_ok-counted.ensures c.in_err-times.field-0.0 turn)

pub repeat_core-returns : goal.repeat_core-returns
repeat_core-returns t c =
    let turn = open_read view_statement statement_ends_open (statement_family (c.args.depth + 1)) c.args.tokens.now c.in_ok-counted.behind c.in_ok-counted.behind _ _ c.in_ok-times.ensures.ok.1 c.statement-turn.ensures in
    record {
      settles = rw c.in_ok-times.ensures.ok.0 (repeat_given c.args.tokens.now c.args.at c.args.depth (c.args.depth + 1) (omega arith) c.in_ok-repeat.repeat c.in_ok-repeat.ensures.reads c.in_ok-counted.ensures turn);
      after = omega (arith, c.in_ok-counted.ensures.after, turn.after);
      inside = turn.inside;
      no_else = turn.no_else;
    }

pub if_core-returns-in_err-if_ : goal.if_core-returns-in_err-if_
if_core-returns-in_err-if_ t c =
    let p = err_from_is_err_and c.from_residual.result c.from_residual.ensures.1 in
    rw (p.1, p.2) (if_word_fails c.args.tokens.now c.args.at c.args.depth (c.args.depth + 1) (omega arith) c.in_err-if_.field-0.0 c.requires.inside c.in_err-if_.ensures.reads)

pub if_core-returns-in_err-left_parenthesis : goal.if_core-returns-in_err-left_parenthesis
if_core-returns-in_err-left_parenthesis t c =
    let p = err_from_is_err_and c.from_residual-in_err-left_parenthesis.result c.from_residual-in_err-left_parenthesis.ensures.1 in
    rw (p.1, p.2) (if_opening_fails c.args.tokens.now c.args.at c.args.depth (c.args.depth + 1) (omega arith) c.in_ok-if_.if_ c.in_ok-if_.ensures.reads c.in_err-left_parenthesis.field-0.0 c.in_err-left_parenthesis.ensures.reads)

pub if_core-returns-in_err-asked : goal.if_core-returns-in_err-asked
if_core-returns-in_err-asked t c =
    let p = err_from_is_err_and c.from_residual-in_err-asked.result c.from_residual-in_err-asked.ensures.1 in
    rw (p.1, p.2) (if_condition_fails c.args.tokens.now c.args.at c.args.depth (c.args.depth + 1) (omega arith) c.in_ok-if_.if_ c.in_ok-if_.ensures.reads c.in_ok-left_parenthesis.left_parenthesis c.in_ok-left_parenthesis.ensures.reads c.in_err-asked.field-0.0 c.in_err-asked.ensures)

pub if_core-returns-in_err-tested : goal.if_core-returns-in_err-tested
if_core-returns-in_err-tested t c =
    let p = err_from_is_err_and c.from_residual-in_err-tested.result c.from_residual-in_err-tested.ensures.1 in
    let closing = token_fault (mark_by kind.RightParenthesis (counted c.args.depth 0)) c.args.tokens.now c.in_ok-asked.behind _ _ c.in_err-tested.ensures.err c.expect-closing.ensures.reads in
    rw (p.1, p.2) (if_closing_fails c.args.tokens.now c.args.at c.args.depth (c.args.depth + 1) (omega arith) c.in_ok-if_.if_ c.in_ok-if_.ensures.reads c.in_ok-left_parenthesis.left_parenthesis c.in_ok-left_parenthesis.ensures.reads c.in_ok-asked.ensures c.in_err-tested.field-0.0 closing)

pub if_core-returns-in_err-held : goal.if_core-returns-in_err-held
if_core-returns-in_err-held t c =
    let p = err_from_is_err_and c.from_residual-in_err-held.result c.from_residual-in_err-held.ensures.1 in
    let closing = token_read (mark_by kind.RightParenthesis (counted c.args.depth 0)) c.args.tokens.now c.in_ok-asked.behind _ _ c.in_ok-tested.ensures.ok.1 c.expect-closing.ensures.reads in
    let first = boxed_open_fault view_statement statement_ends_open (statement_family (c.args.depth + 1)) c.args.tokens.now (c.in_ok-asked.behind + 1) (c.in_ok-asked.behind + 1) _ _ c.in_err-held.ensures.err c.statement-first.ensures in
    rw (p.1, p.2) (if_statement_fails c.args.tokens.now c.args.at c.args.depth (c.args.depth + 1) (omega arith) c.in_ok-if_.if_ c.in_ok-if_.ensures.reads c.in_ok-left_parenthesis.left_parenthesis c.in_ok-left_parenthesis.ensures.reads c.in_ok-asked.ensures c.in_ok-tested.right_parenthesis closing c.in_err-held.field-0.0 first)

pub if_core-returns-then-not-is : goal.if_core-returns-then-not-is
if_core-returns-then-not-is t c =
    let closing = token_read (mark_by kind.RightParenthesis (counted c.args.depth 0)) c.args.tokens.now c.in_ok-asked.behind _ _ c.in_ok-tested.ensures.ok.1 c.expect-closing.ensures.reads in
    let first = open_read view_statement statement_ends_open (statement_family (c.args.depth + 1)) c.args.tokens.now (c.in_ok-asked.behind + 1) (c.in_ok-asked.behind + 1) _ _ c.in_ok-held.ensures.ok.1 c.statement-first.ensures in
    let same = c.in_ok-held.ensures.ok.0 ∙ c.in_ok-tested.ensures.ok.0 in
    record {
      settles = rw same (if_given c.args.tokens.now c.args.at c.args.depth (c.args.depth + 1) (omega arith) c.in_ok-if_.if_ c.in_ok-if_.ensures.reads c.in_ok-left_parenthesis.left_parenthesis c.in_ok-left_parenthesis.ensures.reads c.in_ok-asked.ensures c.in_ok-tested.right_parenthesis closing first (search rules));
      after = omega (arith, c.in_ok-asked.ensures.after, first.after);
      inside = first.inside;
      no_else = λ opens. search rules;
    }

pub if_core-returns-in_err-front : goal.if_core-returns-in_err-front
if_core-returns-in_err-front t c =
    let p = err_from_is_err_and c.from_residual-in_err-front.result c.from_residual-in_err-front.ensures.1 in
    let closing = token_read (mark_by kind.RightParenthesis (counted c.args.depth 0)) c.args.tokens.now c.in_ok-asked.behind _ _ c.in_ok-tested.ensures.ok.1 c.expect-closing.ensures.reads in
    let first = open_read view_statement statement_ends_open (statement_family (c.args.depth + 1)) c.args.tokens.now (c.in_ok-asked.behind + 1) (c.in_ok-asked.behind + 1) _ _ c.in_ok-held.ensures.ok.1 c.statement-first.ensures in
    let word = token_fault (mark_by kind.Else (counted c.args.depth 0)) c.args.tokens.now c.in_ok-held.after _ _ c.in_err-front.ensures.err c.expect-word.ensures.reads in
    rw (p.1, p.2) (else_word_fails c.args.tokens.now c.args.at c.args.depth (c.args.depth + 1) (omega arith) c.in_ok-if_.if_ c.in_ok-if_.ensures.reads c.in_ok-left_parenthesis.left_parenthesis c.in_ok-left_parenthesis.ensures.reads c.in_ok-asked.ensures c.in_ok-tested.right_parenthesis closing first (search rules) c.in_err-front.field-0.0 word)

pub if_core-returns-in_err-condition : goal.if_core-returns-in_err-condition
if_core-returns-in_err-condition t c =
    let p = err_from_is_err_and c.from_residual-in_err-condition.result c.from_residual-in_err-condition.ensures.1 in
    let closing = token_read (mark_by kind.RightParenthesis (counted c.args.depth 0)) c.args.tokens.now c.in_ok-asked.behind _ _ c.in_ok-tested.ensures.ok.1 c.expect-closing.ensures.reads in
    let first = open_read view_statement statement_ends_open (statement_family (c.args.depth + 1)) c.args.tokens.now (c.in_ok-asked.behind + 1) (c.in_ok-asked.behind + 1) _ _ c.in_ok-held.ensures.ok.1 c.statement-first.ensures in
    let word = token_read (mark_by kind.Else (counted c.args.depth 0)) c.args.tokens.now c.in_ok-held.after _ _ c.in_ok-front.ensures.ok.1 c.expect-word.ensures.reads in
    let second = boxed_open_fault view_statement statement_ends_open (statement_family (c.args.depth + 1)) c.args.tokens.now (c.in_ok-held.after + 1) (c.in_ok-held.after + 1) _ _ c.in_err-condition.ensures.err c.statement-second.ensures in
    rw (p.1, p.2) (else_statement_fails c.args.tokens.now c.args.at c.args.depth (c.args.depth + 1) (omega arith) c.in_ok-if_.if_ c.in_ok-if_.ensures.reads c.in_ok-left_parenthesis.left_parenthesis c.in_ok-left_parenthesis.ensures.reads c.in_ok-asked.ensures c.in_ok-tested.right_parenthesis closing first (search rules) c.in_ok-front.else_ word c.in_err-condition.field-0.0 second)

pub if_core-returns : goal.if_core-returns
if_core-returns t c =
    let closing = token_read (mark_by kind.RightParenthesis (counted c.args.depth 0)) c.args.tokens.now c.in_ok-asked.behind _ _ c.in_ok-tested.ensures.ok.1 c.expect-closing.ensures.reads in
    let first = open_read view_statement statement_ends_open (statement_family (c.args.depth + 1)) c.args.tokens.now (c.in_ok-asked.behind + 1) (c.in_ok-asked.behind + 1) _ _ c.in_ok-held.ensures.ok.1 c.statement-first.ensures in
    let word = token_read (mark_by kind.Else (counted c.args.depth 0)) c.args.tokens.now c.in_ok-held.after _ _ c.in_ok-front.ensures.ok.1 c.expect-word.ensures.reads in
    let second = open_read view_statement statement_ends_open (statement_family (c.args.depth + 1)) c.args.tokens.now (c.in_ok-held.after + 1) (c.in_ok-held.after + 1) _ _ c.in_ok-condition.ensures.ok.1 c.statement-second.ensures in
    let same = c.in_ok-held.ensures.ok.0 ∙ c.in_ok-tested.ensures.ok.0 in
    let inner = c.in_ok-condition.ensures.ok.0 ∙ c.in_ok-front.ensures.ok.0 in
    let condition = first_kept _ _ inner ∙ same in
    let placed = second_kept _ _ inner in
    record {
      settles = rw (condition, placed) (else_given c.args.tokens.now c.args.at c.args.depth (c.args.depth + 1) (omega arith) c.in_ok-if_.if_ c.in_ok-if_.ensures.reads c.in_ok-left_parenthesis.left_parenthesis c.in_ok-left_parenthesis.ensures.reads c.in_ok-asked.ensures c.in_ok-tested.right_parenthesis closing first (search rules) c.in_ok-front.else_ word second);
      after = omega (arith, c.in_ok-asked.ensures.after, first.after, second.after);
      inside = second.inside;
      no_else = second.no_else;
    }

pub arm-returns-in_err-read : goal.arm-returns-in_err-read
arm-returns-in_err-read t c =
    let p = err_from_is_err_and c.from_residual.result c.from_residual.ensures.1 in
    rw (p.1, p.2) (arm_label_fails c.args.tokens.now c.args.at c.args.depth (c.args.depth + 1) (omega arith) c.in_err-read.field-0.0 c.in_err-read.ensures)

pub arm-returns-in_err-kept : goal.arm-returns-in_err-kept
arm-returns-in_err-kept t c =
    let p = err_from_is_err_and c.from_residual-in_err-kept.result c.from_residual-in_err-kept.ensures.1 in
    let mark = token_fault (mark_by kind.Colon (counted c.args.depth 0)) c.args.tokens.now c.in_ok-read.behind _ _ c.in_err-kept.ensures.err c.expect-mark.ensures.reads in
    rw (p.1, p.2) (arm_colon_fails c.args.tokens.now c.args.at c.args.depth (c.args.depth + 1) (omega arith) c.in_ok-read.ensures c.in_err-kept.field-0.0 mark)

pub arm-returns-in_err-label : goal.arm-returns-in_err-label
arm-returns-in_err-label t c =
    let p = err_from_is_err_and c.from_residual-in_err-label.result c.from_residual-in_err-label.ensures.1 in
    let mark = token_read (mark_by kind.Colon (counted c.args.depth 0)) c.args.tokens.now c.in_ok-read.behind _ _ c.in_ok-kept.ensures.ok.1 c.expect-mark.ensures.reads in
    let chosen = open_fault view_statement statement_ends_open (statement_family (c.args.depth + 1)) c.args.tokens.now (c.in_ok-read.behind + 1) (c.in_ok-read.behind + 1) _ _ c.in_err-label.ensures.err c.statement-chosen.ensures in
    rw (p.1, p.2) (arm_statement_fails c.args.tokens.now c.args.at c.args.depth (c.args.depth + 1) (omega arith) c.in_ok-read.ensures c.in_ok-kept.colon mark c.in_err-label.field-0.0 chosen)

pub arm-returns : goal.arm-returns
arm-returns t c =
    let mark = token_read (mark_by kind.Colon (counted c.args.depth 0)) c.args.tokens.now c.in_ok-read.behind _ _ c.in_ok-kept.ensures.ok.1 c.expect-mark.ensures.reads in
    let chosen = open_read view_statement statement_ends_open (statement_family (c.args.depth + 1)) c.args.tokens.now (c.in_ok-read.behind + 1) (c.in_ok-read.behind + 1) _ _ c.in_ok-label.ensures.ok.1 c.statement-chosen.ensures in
    let label = c.in_ok-label.ensures.ok.0 ∙ c.in_ok-kept.ensures.ok.0 in
    record {
      settles = rw label (arm_given c.args.tokens.now c.args.at c.args.depth (c.args.depth + 1) (omega arith) c.in_ok-read.ensures c.in_ok-kept.colon mark chosen);
      after = omega (arith, c.in_ok-read.ensures.after, chosen.after);
      inside = chosen.inside;
    }

pub arms-all-init : goal.arms-all-init
arms-all-init t c = rw c.new-all.ensures.items (list_begins (is_other kind.RightBrace) (arm_family c.args.depth) c.args.tokens.now (c.args.at - 1) c.args.at (omega (arith, c.requires.behind)) c.requires.inside)

pub arms-returns-in_err-grown : goal.arms-returns-in_err-grown
arms-returns-in_err-grown t c =
    let p = err_from_is_err_and c.from_residual.result c.from_residual.ensures.1 in
    let l = c.all.invariant in
    let fault = boxed_fault view_arm (arm_family c.args.depth) c.args.tokens.now c.all.place c.all.place 1 _ _ c.in_err-grown.ensures.err c.arm-next.ensures in
    rw (p.1, p.2) (list_fails (is_other kind.RightBrace) (arm_family c.args.depth) c.args.tokens.now (c.args.at - 1) c.args.at (map view_arm c.all.all.items) c.all.place l (search rules) c.in_err-grown.field-0.0 (later_fault c.args.tokens.now (c.args.at - 1) (arm_family c.args.depth) c.all.place c.in_err-grown.field-0.0 (omega (arith, l.reached)) fault))

pub arms-all-preserved : goal.arms-all-preserved
arms-all-preserved t c =
    let l = c.all.invariant in
    let more = c.in_ok-grown.ensures.ok in
    let read = part_read view_arm (arm_family c.args.depth) c.args.tokens.now c.all.place c.all.place 1 _ _ more.1 c.arm-next.ensures in
    let settles = later c.args.tokens.now (c.args.at - 1) (arm_family c.args.depth) c.all.place _ (omega (arith, l.reached)) read.settles in
    rw (more.2, map-append) (list_turns (is_other kind.RightBrace) (arm_family c.args.depth) c.args.tokens.now (c.args.at - 1) c.args.at (map view_arm c.all.all.items) c.all.place l (search rules) (view_arm more.0) c.in_ok-grown.after settles (omega (arith, read.after)) read.inside)

pub arms-returns : goal.arms-returns
arms-returns t c =
    let l = c.all.invariant in
    record {
      settles = list_ends (is_other kind.RightBrace) (arm_family c.args.depth) c.args.tokens.now (c.args.at - 1) c.args.at (map view_arm c.all.all.items) c.all.place l (search rules);
      after = omega (arith, l.reached);
      inside = l.inside;
    }

pub match_core-returns-in_err-match_ : goal.match_core-returns-in_err-match_
match_core-returns-in_err-match_ t c =
    let p = err_from_is_err_and c.from_residual.result c.from_residual.ensures.1 in
    rw (p.1, p.2) (match_word_fails c.args.tokens.now c.args.at c.args.depth c.in_err-match_.field-0.0 c.requires.inside c.in_err-match_.ensures.reads)

pub match_core-returns-in_err-left_parenthesis : goal.match_core-returns-in_err-left_parenthesis
match_core-returns-in_err-left_parenthesis t c =
    let p = err_from_is_err_and c.from_residual-in_err-left_parenthesis.result c.from_residual-in_err-left_parenthesis.ensures.1 in
    rw (p.1, p.2) (match_opening_fails c.args.tokens.now c.args.at c.args.depth c.in_ok-match_.match_ c.in_ok-match_.ensures.reads c.in_err-left_parenthesis.field-0.0 c.in_err-left_parenthesis.ensures.reads)

pub match_core-returns-in_err-asked : goal.match_core-returns-in_err-asked
match_core-returns-in_err-asked t c =
    let p = err_from_is_err_and c.from_residual-in_err-asked.result c.from_residual-in_err-asked.ensures.1 in
    rw (p.1, p.2) (match_value_fails c.args.tokens.now c.args.at c.args.depth c.in_ok-match_.match_ c.in_ok-match_.ensures.reads c.in_ok-left_parenthesis.left_parenthesis c.in_ok-left_parenthesis.ensures.reads c.in_err-asked.field-0.0 c.in_err-asked.ensures)

pub match_core-returns-in_err-tested : goal.match_core-returns-in_err-tested
match_core-returns-in_err-tested t c =
    let p = err_from_is_err_and c.from_residual-in_err-tested.result c.from_residual-in_err-tested.ensures.1 in
    let closing = token_fault (mark_by kind.RightParenthesis (counted c.args.depth 0)) c.args.tokens.now c.in_ok-asked.behind _ _ c.in_err-tested.ensures.err c.expect-closing.ensures.reads in
    rw (p.1, p.2) (match_closing_fails c.args.tokens.now c.args.at c.args.depth c.in_ok-match_.match_ c.in_ok-match_.ensures.reads c.in_ok-left_parenthesis.left_parenthesis c.in_ok-left_parenthesis.ensures.reads c.in_ok-asked.ensures c.in_err-tested.field-0.0 closing)

pub match_core-returns-in_err-matched : goal.match_core-returns-in_err-matched
match_core-returns-in_err-matched t c =
    let p = err_from_is_err_and c.from_residual-in_err-matched.result c.from_residual-in_err-matched.ensures.1 in
    let closing = token_read (mark_by kind.RightParenthesis (counted c.args.depth 0)) c.args.tokens.now c.in_ok-asked.behind _ _ c.in_ok-tested.ensures.ok.1 c.expect-closing.ensures.reads in
    let opening = token_fault (mark_by kind.LeftBrace (counted c.args.depth 0)) c.args.tokens.now (c.in_ok-asked.behind + 1) _ _ c.in_err-matched.ensures.err c.expect-opening.ensures.reads in
    rw (p.1, p.2) (match_brace_fails c.args.tokens.now c.args.at c.args.depth c.in_ok-match_.match_ c.in_ok-match_.ensures.reads c.in_ok-left_parenthesis.left_parenthesis c.in_ok-left_parenthesis.ensures.reads c.in_ok-asked.ensures c.in_ok-tested.right_parenthesis closing c.in_err-matched.field-0.0 opening)

pub match_core-returns-in_err-held : goal.match_core-returns-in_err-held
match_core-returns-in_err-held t c =
    let p = err_from_is_err_and c.from_residual-in_err-held.result c.from_residual-in_err-held.ensures.1 in
    let closing = token_read (mark_by kind.RightParenthesis (counted c.args.depth 0)) c.args.tokens.now c.in_ok-asked.behind _ _ c.in_ok-tested.ensures.ok.1 c.expect-closing.ensures.reads in
    let opening = token_read (mark_by kind.LeftBrace (counted c.args.depth 0)) c.args.tokens.now (c.in_ok-asked.behind + 1) _ _ c.in_ok-matched.ensures.ok.1 c.expect-opening.ensures.reads in
    let one = boxed_fault view_arm (arm_family c.args.depth) c.args.tokens.now (c.in_ok-asked.behind + 2) (c.in_ok-asked.behind + 2) 1 _ _ c.in_err-held.ensures.err c.arm-one.ensures in
    rw (p.1, p.2) (match_first_fails c.args.tokens.now c.args.at c.args.depth c.in_ok-match_.match_ c.in_ok-match_.ensures.reads c.in_ok-left_parenthesis.left_parenthesis c.in_ok-left_parenthesis.ensures.reads c.in_ok-asked.ensures c.in_ok-tested.right_parenthesis closing c.in_ok-matched.left_brace opening c.in_err-held.field-0.0 one)

pub match_core-returns-in_err-front : goal.match_core-returns-in_err-front
match_core-returns-in_err-front t c =
    let p = err_from_is_err_and c.from_residual-in_err-front.result c.from_residual-in_err-front.ensures.1 in
    let closing = token_read (mark_by kind.RightParenthesis (counted c.args.depth 0)) c.args.tokens.now c.in_ok-asked.behind _ _ c.in_ok-tested.ensures.ok.1 c.expect-closing.ensures.reads in
    let opening = token_read (mark_by kind.LeftBrace (counted c.args.depth 0)) c.args.tokens.now (c.in_ok-asked.behind + 1) _ _ c.in_ok-matched.ensures.ok.1 c.expect-opening.ensures.reads in
    let one = part_read view_arm (arm_family c.args.depth) c.args.tokens.now (c.in_ok-asked.behind + 2) (c.in_ok-asked.behind + 2) 1 _ _ c.in_ok-held.ensures.ok.1 c.arm-one.ensures in
    let others = part_fault view_arms (arms_family c.args.depth) c.args.tokens.now (c.in_ok-held.after - 1) c.in_ok-held.after 0 _ _ c.in_err-front.ensures.err c.arms-others.ensures in
    rw (p.1, p.2) (match_rest_fails c.args.tokens.now c.args.at c.args.depth c.in_ok-match_.match_ c.in_ok-match_.ensures.reads c.in_ok-left_parenthesis.left_parenthesis c.in_ok-left_parenthesis.ensures.reads c.in_ok-asked.ensures c.in_ok-tested.right_parenthesis closing c.in_ok-matched.left_brace opening one c.in_err-front.field-0.0 others)

pub match_core-returns-in_err-expr : goal.match_core-returns-in_err-expr
match_core-returns-in_err-expr t c =
    let p = err_from_is_err_and c.from_residual-in_err-expr.result c.from_residual-in_err-expr.ensures.1 in
    let closing = token_read (mark_by kind.RightParenthesis (counted c.args.depth 0)) c.args.tokens.now c.in_ok-asked.behind _ _ c.in_ok-tested.ensures.ok.1 c.expect-closing.ensures.reads in
    let opening = token_read (mark_by kind.LeftBrace (counted c.args.depth 0)) c.args.tokens.now (c.in_ok-asked.behind + 1) _ _ c.in_ok-matched.ensures.ok.1 c.expect-opening.ensures.reads in
    let one = part_read view_arm (arm_family c.args.depth) c.args.tokens.now (c.in_ok-asked.behind + 2) (c.in_ok-asked.behind + 2) 1 _ _ c.in_ok-held.ensures.ok.1 c.arm-one.ensures in
    let others = part_read view_arms (arms_family c.args.depth) c.args.tokens.now (c.in_ok-held.after - 1) c.in_ok-held.after 0 _ _ c.in_ok-front.ensures.ok.1 c.arms-others.ensures in
    let last = token_fault (mark_by kind.RightBrace (counted c.args.depth 0)) c.args.tokens.now c.in_ok-front.end _ _ c.in_err-expr.ensures.err c.expect-last.ensures.reads in
    rw (p.1, p.2) (match_end_fails c.args.tokens.now c.args.at c.args.depth c.in_ok-match_.match_ c.in_ok-match_.ensures.reads c.in_ok-left_parenthesis.left_parenthesis c.in_ok-left_parenthesis.ensures.reads c.in_ok-asked.ensures c.in_ok-tested.right_parenthesis closing c.in_ok-matched.left_brace opening one others c.in_err-expr.field-0.0 last)

pub match_core-returns : goal.match_core-returns
match_core-returns t c =
    let closing = token_read (mark_by kind.RightParenthesis (counted c.args.depth 0)) c.args.tokens.now c.in_ok-asked.behind _ _ c.in_ok-tested.ensures.ok.1 c.expect-closing.ensures.reads in
    let opening = token_read (mark_by kind.LeftBrace (counted c.args.depth 0)) c.args.tokens.now (c.in_ok-asked.behind + 1) _ _ c.in_ok-matched.ensures.ok.1 c.expect-opening.ensures.reads in
    let one = part_read view_arm (arm_family c.args.depth) c.args.tokens.now (c.in_ok-asked.behind + 2) (c.in_ok-asked.behind + 2) 1 _ _ c.in_ok-held.ensures.ok.1 c.arm-one.ensures in
    let others = part_read view_arms (arms_family c.args.depth) c.args.tokens.now (c.in_ok-held.after - 1) c.in_ok-held.after 0 _ _ c.in_ok-front.ensures.ok.1 c.arms-others.ensures in
    let last = token_read (mark_by kind.RightBrace (counted c.args.depth 0)) c.args.tokens.now c.in_ok-front.end _ _ c.in_ok-expr.ensures.ok.1 c.expect-last.ensures.reads in
    let inner = first_kept _ _ c.in_ok-expr.ensures.ok.0 ∙ c.in_ok-front.ensures.ok.0 in
    let expr = first_kept _ _ inner ∙ c.in_ok-held.ensures.ok.0 ∙ c.in_ok-matched.ensures.ok.0 ∙ c.in_ok-tested.ensures.ok.0 in
    let first = second_kept _ _ inner in
    let rest = second_kept _ _ c.in_ok-expr.ensures.ok.0 in
    record {
      settles = rw (match_view, expr, first, rest) (match_given c.args.tokens.now c.args.at c.args.depth c.in_ok-match_.match_ c.in_ok-match_.ensures.reads c.in_ok-left_parenthesis.left_parenthesis c.in_ok-left_parenthesis.ensures.reads c.in_ok-asked.ensures c.in_ok-tested.right_parenthesis closing c.in_ok-matched.left_brace opening one others c.in_ok-expr.right_brace last);
      after = omega (arith, c.in_ok-asked.ensures.after, one.after, others.after);
      inside = last.1;
      no_else = λ opens. absurd cc;
    }

pub unlabeled-returns-then-is : goal.unlabeled-returns-then-is
unlabeled-returns-then-is t c =
    let here = do_here c.args.tokens.now c.args.at c.args.depth (sym c.is.ensures ∙ c.if-is.true) in
    reads_open_on (core_family c.args.depth) c.args.tokens.now c.args.at c.args.at view_core core_ends_open (do_family c.args.depth) c.do_core.result c.do_core.ensures here

pub unlabeled-returns-then-is-2 : goal.unlabeled-returns-then-is-2
unlabeled-returns-then-is-2 t c =
    let here = brace_here c.args.tokens.now c.args.at c.args.depth (sym c.is.ensures ∙ c.if-is.false) (sym c.is-2.ensures ∙ c.if-is-2.true) in
    reads_open_on (core_family c.args.depth) c.args.tokens.now c.args.at c.args.at view_core core_ends_open (sequence_family c.args.depth) c.sequence_core.result c.sequence_core.ensures here

pub unlabeled-returns-then-is-3 : goal.unlabeled-returns-then-is-3
unlabeled-returns-then-is-3 t c =
    let here = sequence_here c.args.tokens.now c.args.at c.args.depth (sym c.is.ensures ∙ c.if-is.false) (sym c.is-2.ensures ∙ c.if-is-2.false) (sym c.is-3.ensures ∙ c.if-is-3.true) in
    reads_open_on (core_family c.args.depth) c.args.tokens.now c.args.at c.args.at view_core core_ends_open (sequence_family c.args.depth) c.sequence_core-then-is-3.result c.sequence_core-then-is-3.ensures here

pub unlabeled-returns-then-is-4 : goal.unlabeled-returns-then-is-4
unlabeled-returns-then-is-4 t c =
    let here = parallel_here c.args.tokens.now c.args.at c.args.depth (sym c.is.ensures ∙ c.if-is.false) (sym c.is-2.ensures ∙ c.if-is-2.false) (sym c.is-3.ensures ∙ c.if-is-3.false) (sym c.is-4.ensures ∙ c.if-is-4.true) in
    reads_open_on (core_family c.args.depth) c.args.tokens.now c.args.at c.args.at view_core core_ends_open (together_family the_together_word.Parallel c.args.depth) c.together_core.result c.together_core.ensures here

pub unlabeled-returns-then-is-5 : goal.unlabeled-returns-then-is-5
unlabeled-returns-then-is-5 t c =
    let here = schedule_here c.args.tokens.now c.args.at c.args.depth (sym c.is.ensures ∙ c.if-is.false) (sym c.is-2.ensures ∙ c.if-is-2.false) (sym c.is-3.ensures ∙ c.if-is-3.false) (sym c.is-4.ensures ∙ c.if-is-4.false) (sym c.is-5.ensures ∙ c.if-is-5.true) in
    reads_open_on (core_family c.args.depth) c.args.tokens.now c.args.at c.args.at view_core core_ends_open (together_family the_together_word.Schedule c.args.depth) c.together_core-then-is-5.result c.together_core-then-is-5.ensures here

pub unlabeled-returns-then-is-6 : goal.unlabeled-returns-then-is-6
unlabeled-returns-then-is-6 t c =
    let here = select_here c.args.tokens.now c.args.at c.args.depth (sym c.is.ensures ∙ c.if-is.false) (sym c.is-2.ensures ∙ c.if-is-2.false) (sym c.is-3.ensures ∙ c.if-is-3.false) (sym c.is-4.ensures ∙ c.if-is-4.false) (sym c.is-5.ensures ∙ c.if-is-5.false) (sym c.is-6.ensures ∙ c.if-is-6.true) in
    reads_open_on (core_family c.args.depth) c.args.tokens.now c.args.at c.args.at view_core core_ends_open (select_family c.args.depth) c.select_core.result c.select_core.ensures here

pub unlabeled-returns-then-is-7 : goal.unlabeled-returns-then-is-7
unlabeled-returns-then-is-7 t c =
    let here = repeat_here c.args.tokens.now c.args.at c.args.depth (sym c.is.ensures ∙ c.if-is.false) (sym c.is-2.ensures ∙ c.if-is-2.false) (sym c.is-3.ensures ∙ c.if-is-3.false) (sym c.is-4.ensures ∙ c.if-is-4.false) (sym c.is-5.ensures ∙ c.if-is-5.false) (sym c.is-6.ensures ∙ c.if-is-6.false) (sym c.is-7.ensures ∙ c.if-is-7.true) in
    reads_open_on (core_family c.args.depth) c.args.tokens.now c.args.at c.args.at view_core core_ends_open (repeated_family c.args.depth) c.repeat_core.result c.repeat_core.ensures here

pub unlabeled-returns-then-is-8 : goal.unlabeled-returns-then-is-8
unlabeled-returns-then-is-8 t c =
    let here = if_here c.args.tokens.now c.args.at c.args.depth (sym c.is.ensures ∙ c.if-is.false) (sym c.is-2.ensures ∙ c.if-is-2.false) (sym c.is-3.ensures ∙ c.if-is-3.false) (sym c.is-4.ensures ∙ c.if-is-4.false) (sym c.is-5.ensures ∙ c.if-is-5.false) (sym c.is-6.ensures ∙ c.if-is-6.false) (sym c.is-7.ensures ∙ c.if-is-7.false) (sym c.is-8.ensures ∙ c.if-is-8.true) in
    reads_open_on (core_family c.args.depth) c.args.tokens.now c.args.at c.args.at view_core core_ends_open (if_family c.args.depth) c.if_core.result c.if_core.ensures here

pub unlabeled-returns-then-is-9 : goal.unlabeled-returns-then-is-9
unlabeled-returns-then-is-9 t c =
    let here = match_here c.args.tokens.now c.args.at c.args.depth (sym c.is.ensures ∙ c.if-is.false) (sym c.is-2.ensures ∙ c.if-is-2.false) (sym c.is-3.ensures ∙ c.if-is-3.false) (sym c.is-4.ensures ∙ c.if-is-4.false) (sym c.is-5.ensures ∙ c.if-is-5.false) (sym c.is-6.ensures ∙ c.if-is-6.false) (sym c.is-7.ensures ∙ c.if-is-7.false) (sym c.is-8.ensures ∙ c.if-is-8.false) (sym c.is-9.ensures ∙ c.if-is-9.true) in
    reads_open_on (core_family c.args.depth) c.args.tokens.now c.args.at c.args.at view_core core_ends_open (match_family c.args.depth) c.match_core.result c.match_core.ensures here

pub unlabeled-returns-then-is-10 : goal.unlabeled-returns-then-is-10
unlabeled-returns-then-is-10 t c =
    let here = bind_here c.args.tokens.now c.args.at c.args.depth (sym c.is.ensures ∙ c.if-is.false) (sym c.is-2.ensures ∙ c.if-is-2.false) (sym c.is-3.ensures ∙ c.if-is-3.false) (sym c.is-4.ensures ∙ c.if-is-4.false) (sym c.is-5.ensures ∙ c.if-is-5.false) (sym c.is-6.ensures ∙ c.if-is-6.false) (sym c.is-7.ensures ∙ c.if-is-7.false) (sym c.is-8.ensures ∙ c.if-is-8.false) (sym c.is-9.ensures ∙ c.if-is-9.false) (sym c.is-10.ensures ∙ c.if-is-10.true) in
    reads_open_on (core_family c.args.depth) c.args.tokens.now c.args.at c.args.at view_core core_ends_open (bound_family c.args.depth) c.bound_core.result c.bound_core.ensures here

pub unlabeled-returns : goal.unlabeled-returns
unlabeled-returns t c =
    let here = handle_here c.args.tokens.now c.args.at c.args.depth (sym c.is.ensures ∙ c.if-is.false) (sym c.is-2.ensures ∙ c.if-is-2.false) (sym c.is-3.ensures ∙ c.if-is-3.false) (sym c.is-4.ensures ∙ c.if-is-4.false) (sym c.is-5.ensures ∙ c.if-is-5.false) (sym c.is-6.ensures ∙ c.if-is-6.false) (sym c.is-7.ensures ∙ c.if-is-7.false) (sym c.is-8.ensures ∙ c.if-is-8.false) (sym c.is-9.ensures ∙ c.if-is-9.false) (sym c.is-10.ensures ∙ c.if-is-10.false) in
    reads_open_on (core_family c.args.depth) c.args.tokens.now c.args.at c.args.at view_core core_ends_open (handle_family c.args.depth) c.handle_core.result c.handle_core.ensures here

pub named-returns-in_err-name : goal.named-returns-in_err-name
named-returns-in_err-name t c =
    let p = err_from_is_err_and c.from_residual.result c.from_residual.ensures.1 in
    rw (p.1, p.2) (named_name_fails c.args.tokens.now c.args.at c.args.depth c.in_err-name.field-0.0 c.requires.inside c.in_err-name.ensures.reads)

pub named-returns-in_err-with : goal.named-returns-in_err-with
named-returns-in_err-with t c =
    let p = err_from_is_err_and c.from_residual-in_err-with.result c.from_residual-in_err-with.ensures.1 in
    rw (p.1, p.2) (handle_with_fails c.args.tokens.now c.args.at c.args.depth c.in_ok-name.name c.in_ok-name.ensures.reads (search rules) c.in_err-with.field-0.0 c.in_err-with.ensures)

pub named-returns-then-not-is : goal.named-returns-then-not-is
named-returns-then-not-is t c = record {
  settles = handle_given c.args.tokens.now c.args.at c.args.depth c.in_ok-name.name c.in_ok-name.ensures.reads (search rules) (view_with c.in_ok-with.with) c.in_ok-with.behind (omega (arith, c.in_ok-with.ensures.after)) c.in_ok-with.ensures.settles;
  after = omega (arith, c.in_ok-with.ensures.after);
  inside = c.in_ok-with.ensures.inside;
  no_else = c.in_ok-with.ensures.no_else;
}

pub named-returns-in_err-colon : goal.named-returns-in_err-colon
named-returns-in_err-colon t c =
    let p = err_from_is_err_and c.from_residual-in_err-colon.result c.from_residual-in_err-colon.ensures.1 in
    rw (p.1, p.2) (label_colon_fails c.args.tokens.now c.args.at c.args.depth c.in_ok-name.name c.in_ok-name.ensures.reads (search rules) c.in_err-colon.field-0.0 c.in_err-colon.ensures.reads)

pub named-returns-in_err-core : goal.named-returns-in_err-core
named-returns-in_err-core t c =
    let p = err_from_is_err_and c.from_residual-in_err-core.result c.from_residual-in_err-core.ensures.1 in
    rw (p.1, p.2) (label_core_fails c.args.tokens.now c.args.at c.args.depth c.in_ok-name.name c.in_ok-name.ensures.reads (search rules) c.in_ok-colon.colon c.in_ok-colon.ensures.reads c.in_err-core.field-0.0 c.in_err-core.ensures)

pub named-returns : goal.named-returns
named-returns t c = record {
  settles = label_given c.args.tokens.now c.args.at c.args.depth c.in_ok-name.name c.in_ok-name.ensures.reads (search rules) c.in_ok-colon.colon c.in_ok-colon.ensures.reads (view_core c.in_ok-core.core) c.in_ok-core.after (omega (arith, c.in_ok-core.ensures.after)) c.in_ok-core.ensures.settles;
  after = omega (arith, c.in_ok-core.ensures.after);
  inside = c.in_ok-core.ensures.inside;
  no_else = c.in_ok-core.ensures.no_else;
}

pub plain-returns-in_err-core : goal.plain-returns-in_err-core
plain-returns-in_err-core t c =
    let p = err_from_is_err_and c.from_residual.result c.from_residual.ensures.1 in
    rw (p.1, p.2) (plain_core_fails c.args.tokens.now c.args.at c.args.depth c.in_err-core.field-0.0 c.in_err-core.ensures)

pub plain-returns : goal.plain-returns
plain-returns t c = record {
  settles = plain_given c.args.tokens.now c.args.at c.args.depth (view_core c.in_ok-core.core) c.in_ok-core.after (omega (arith, c.in_ok-core.ensures.after)) c.in_ok-core.ensures.settles;
  after = omega (arith, c.in_ok-core.ensures.after);
  inside = c.in_ok-core.ensures.inside;
  no_else = c.in_ok-core.ensures.no_else;
}

pub statement-returns-then-is : goal.statement-returns-then-is
statement-returns-then-is t c =
    let here = choose (statement_family c.args.depth) c.args.tokens.now c.args.at c.args.at kind.Semicolon _ _ c.args.at true (sym c.is.ensures ∙ c.if-is.true) (begin (statement_family c.args.depth) c.args.tokens.now c.args.at c.args.at) in
    reads_open_on (statement_family c.args.depth) c.args.tokens.now c.args.at c.args.at view_statement statement_ends_open (empty_family c.args.depth) c.empty.result c.empty.ensures here

pub statement-returns-then-is_name : goal.statement-returns-then-is_name
statement-returns-then-is_name t c =
    let behind = choose (statement_family c.args.depth) c.args.tokens.now c.args.at c.args.at kind.Semicolon _ _ c.args.at false (sym c.is.ensures ∙ c.if-is.false) (begin (statement_family c.args.depth) c.args.tokens.now c.args.at c.args.at) in
    let here = name_decides (statement_family c.args.depth) c.args.tokens.now c.args.at c.args.at (named_family c.args.depth) (plain_family c.args.depth) c.args.at true (sym c.is_name.ensures ∙ c.if-is_name.true) behind in
    reads_open_on (statement_family c.args.depth) c.args.tokens.now c.args.at c.args.at view_statement statement_ends_open (named_family c.args.depth) c.named.result c.named.ensures here

pub statement-returns : goal.statement-returns
statement-returns t c =
    let behind = choose (statement_family c.args.depth) c.args.tokens.now c.args.at c.args.at kind.Semicolon _ _ c.args.at false (sym c.is.ensures ∙ c.if-is.false) (begin (statement_family c.args.depth) c.args.tokens.now c.args.at c.args.at) in
    let here = name_decides (statement_family c.args.depth) c.args.tokens.now c.args.at c.args.at (named_family c.args.depth) (plain_family c.args.depth) c.args.at false (sym c.is_name.ensures ∙ c.if-is_name.false) behind in
    reads_open_on (statement_family c.args.depth) c.args.tokens.now c.args.at c.args.at view_statement statement_ends_open (plain_family c.args.depth) c.plain.result c.plain.ensures here

pub statements-all-init : goal.statements-all-init
statements-all-init t c = rw c.new-all.ensures.items (list_begins (is_other kind.RightBrace) (nested_family c.args.depth) c.args.tokens.now (c.args.at - 1) c.args.at (omega (arith, c.requires.behind)) c.requires.inside)

pub statements-returns-in_err-grown : goal.statements-returns-in_err-grown
statements-returns-in_err-grown t c =
    let p = err_from_is_err_and c.from_residual.result c.from_residual.ensures.1 in
    let l = c.all.invariant in
    let fault = boxed_open_fault view_statement statement_ends_open (statement_family (c.args.depth + 1)) c.args.tokens.now c.all.place c.all.place _ _ c.in_err-grown.ensures.err c.statement-next.ensures in
    rw (p.1, p.2) (list_fails (is_other kind.RightBrace) (nested_family c.args.depth) c.args.tokens.now (c.args.at - 1) c.args.at (map view_statement c.all.all.items) c.all.place l (search rules) c.in_err-grown.field-0.0 (statement_nested_fails c.args.tokens.now (c.args.at - 1) c.all.place (c.args.depth + 1) c.args.depth (omega arith) c.in_err-grown.field-0.0 (omega (arith, l.reached, c.requires.behind)) l.inside fault))

pub statements-all-preserved : goal.statements-all-preserved
statements-all-preserved t c =
    let l = c.all.invariant in
    let more = c.in_ok-grown.ensures.ok in
    let read = open_read view_statement statement_ends_open (statement_family (c.args.depth + 1)) c.args.tokens.now c.all.place c.all.place _ _ more.1 c.statement-next.ensures in
    let settles = statement_nested c.args.tokens.now (c.args.at - 1) c.all.place (c.args.depth + 1) c.args.depth (omega arith) _ (omega (arith, l.reached, c.requires.behind)) l.inside read.settles in
    rw (more.2, map-append) (list_turns (is_other kind.RightBrace) (nested_family c.args.depth) c.args.tokens.now (c.args.at - 1) c.args.at (map view_statement c.all.all.items) c.all.place l (search rules) (view_statement more.0) c.in_ok-grown.after settles (omega (arith, read.after)) read.inside)

pub statements-returns : goal.statements-returns
statements-returns t c =
    let l = c.all.invariant in
    record {
      settles = list_ends (is_other kind.RightBrace) (nested_family c.args.depth) c.args.tokens.now (c.args.at - 1) c.args.at (map view_statement c.all.all.items) c.all.place l (search rules);
      after = omega (arith, l.reached);
      inside = l.inside;
    }
