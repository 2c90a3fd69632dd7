use Rattle.std.proofs.Common.{arith, rules, ◌-◌, ◌+◌}
use Rattle.std.specs.Prelude.{map}
use Rattle.std.proofs.lemmas.List.{map-append}
use Rattle.std.proofs.lemmas.Result.{err_from_is_err_and}
use Rattle.pst_token.specs.declared.kind.Kind.TheVariants as kind
use Rattle.pst_ast.specs.BodyView.{view_body_statement}
use Rattle.pst_ast.specs.BodyProper.{body_ends_open}
use Rattle.pst_reading.proofs.Lists.{list_begins, list_turns, list_fails, list_ends}
use Rattle.pst_reading.proofs.Reaching.{reads_open_on}
use Rattle.pst_parse_expr.specs.Constraints.{is_other}
use Rattle.pst_parse_expr.specs.ConstraintFamilies.{view_condition}
use Rattle.pst_parse_body.specs.BodyFamilies.{local_family, named_family, block_family, if_family, loop_family, statement_family, nested_family}
use Rattle.pst_parse_part.specs.TimesFamilies.{view_times}
use Rattle.pst_parse_body.proofs.BodyRules.{nested_settles, nested_fault, block_view, if_condition_fails, then_fails, if_given, otherwise_fails, if_else_given, times_fails, repeated_fails, loop_given, block_statements_fail, block_brace_fails, block_given, is_block, is_if, is_loop, is_local, is_named}
use Rattle.pst_parse_body.proofs.body.+body.Goals as goal

pub block-returns-in_err-statements : goal.block-returns-in_err-statements
block-returns-in_err-statements t c =
    let p = err_from_is_err_and c.from_residual-in_err-statements.result c.from_residual-in_err-statements.ensures.1 in
    rw (p.1, p.2) (block_statements_fail c.args.tokens.now c.args.at c.args.depth c.in_ok-left_brace.left_brace c.in_ok-left_brace.ensures.reads.0 c.in_err-statements.field-0.0 c.in_err-statements.ensures)

pub block-returns-in_err-right_brace : goal.block-returns-in_err-right_brace
block-returns-in_err-right_brace t c =
    let p = err_from_is_err_and c.from_residual-in_err-right_brace.result c.from_residual-in_err-right_brace.ensures.1 in
    let l = c.in_ok-statements.ensures in
    rw (p.1, p.2) (block_brace_fails c.args.tokens.now c.args.at c.args.depth c.in_ok-left_brace.left_brace c.in_ok-left_brace.ensures.reads.0 (map view_body_statement c.in_ok-statements.statements.items) c.in_ok-statements.after l.after l.inside l.settles c.in_err-right_brace.field-0.0 c.in_err-right_brace.ensures.reads)

pub block-returns : goal.block-returns
block-returns t c =
    let l = c.in_ok-statements.ensures in
    record {
      settles = rw block_view (block_given c.args.tokens.now c.args.at c.args.depth c.in_ok-left_brace.left_brace c.in_ok-left_brace.ensures.reads.0 (map view_body_statement c.in_ok-statements.statements.items) c.in_ok-statements.after l.after l.inside l.settles c.in_ok-right_brace.right_brace c.in_ok-right_brace.ensures.reads.0);
      after = omega (arith, l.after);
      inside = c.in_ok-right_brace.ensures.reads.1;
      no_else = λ opens. absurd cc;
    }

pub if_statement-returns-in_err-condition : goal.if_statement-returns-in_err-condition
if_statement-returns-in_err-condition t c =
    let p = err_from_is_err_and c.from_residual-in_err-condition.result c.from_residual-in_err-condition.ensures.1 in
    rw (p.1, p.2) (if_condition_fails c.args.tokens.now c.args.at c.args.depth (c.args.depth + 1) (omega arith) c.in_ok-if_.if_ c.in_ok-if_.ensures.reads.0 c.in_err-condition.field-0.0 c.in_err-condition.ensures)

pub if_statement-returns-in_err-then : goal.if_statement-returns-in_err-then
if_statement-returns-in_err-then t c =
    let p = err_from_is_err_and c.from_residual-in_err-then.result c.from_residual-in_err-then.ensures.1 in
    let g = c.in_ok-condition.ensures in
    rw (p.1, p.2) (then_fails c.args.tokens.now c.args.at c.args.depth (c.args.depth + 1) (omega arith) c.in_ok-if_.if_ c.in_ok-if_.ensures.reads.0 (view_condition c.in_ok-condition.condition) c.in_ok-condition.behind g.after g.inside g.settles c.in_err-then.field-0.0 c.in_err-then.ensures)

pub if_statement-returns-then-not-is : goal.if_statement-returns-then-not-is
if_statement-returns-then-not-is t c =
    let g = c.in_ok-condition.ensures in
    let s = c.in_ok-then.ensures in
    record {
      settles = rw (c.in_ok-condition-2.ensures.ok, c.in_ok-then-2.ensures.ok) (if_given c.args.tokens.now c.args.at c.args.depth (c.args.depth + 1) (omega arith) c.in_ok-if_.if_ c.in_ok-if_.ensures.reads.0 (view_condition c.in_ok-condition.condition) c.in_ok-condition.behind g.after g.inside g.settles (view_body_statement c.in_ok-then.then) c.in_ok-then.after s.after s.inside s.settles s.no_else (search rules));
      after = omega (arith, g.after, s.after);
      inside = s.inside;
      no_else = λ opens. search rules;
    }

pub if_statement-returns-in_err-otherwise : goal.if_statement-returns-in_err-otherwise
if_statement-returns-in_err-otherwise t c =
    let p = err_from_is_err_and c.from_residual-in_err-otherwise.result c.from_residual-in_err-otherwise.ensures.1 in
    let g = c.in_ok-condition.ensures in
    let s = c.in_ok-then.ensures in
    rw (p.1, p.2) (otherwise_fails c.args.tokens.now c.args.at c.args.depth (c.args.depth + 1) (omega arith) c.in_ok-if_.if_ c.in_ok-if_.ensures.reads.0 (view_condition c.in_ok-condition.condition) c.in_ok-condition.behind g.after g.inside g.settles (view_body_statement c.in_ok-then.then) c.in_ok-then.after s.after s.inside s.settles s.no_else (search rules) c.in_ok-else_.else_ c.in_ok-else_.ensures.reads.0 c.in_ok-else_.ensures.reads.1 c.in_err-otherwise.field-0.0 c.in_err-otherwise.ensures)

pub if_statement-returns : goal.if_statement-returns
if_statement-returns t c =
    let g = c.in_ok-condition.ensures in
    let s = c.in_ok-then.ensures in
    let o = c.in_ok-otherwise.ensures in
    record {
      settles = rw (c.in_ok-condition-2.ensures.ok, c.in_ok-then-2.ensures.ok, c.in_ok-boxed.ensures.ok) (if_else_given c.args.tokens.now c.args.at c.args.depth (c.args.depth + 1) (omega arith) c.in_ok-if_.if_ c.in_ok-if_.ensures.reads.0 (view_condition c.in_ok-condition.condition) c.in_ok-condition.behind g.after g.inside g.settles (view_body_statement c.in_ok-then.then) c.in_ok-then.after s.after s.inside s.settles s.no_else (search rules) c.in_ok-else_.else_ c.in_ok-else_.ensures.reads.0 c.in_ok-else_.ensures.reads.1 (view_body_statement c.in_ok-otherwise.otherwise) c.in_ok-otherwise.end (omega (arith, o.after)) o.settles);
      after = omega (arith, g.after, s.after, o.after);
      inside = o.inside;
      no_else = rw c.in_ok-boxed.ensures.ok o.no_else;
    }

pub loop_statement-returns-in_err-times : goal.loop_statement-returns-in_err-times
loop_statement-returns-in_err-times t c =
    let p = err_from_is_err_and c.from_residual-in_err-times.result c.from_residual-in_err-times.ensures.1 in
    rw (p.1, p.2) (times_fails c.args.tokens.now c.args.at c.args.depth (c.args.depth + 1) (omega arith) c.in_ok-repeat.repeat c.in_ok-repeat.ensures.reads.0 c.in_err-times.field-0.0 c.in_err-times.ensures)

pub loop_statement-returns-in_err-statement : goal.loop_statement-returns-in_err-statement
loop_statement-returns-in_err-statement t c =
    let p = err_from_is_err_and c.from_residual-in_err-statement.result c.from_residual-in_err-statement.ensures.1 in
    let g = c.in_ok-times.ensures in
    rw (p.1, p.2) (repeated_fails c.args.tokens.now c.args.at c.args.depth (c.args.depth + 1) (omega arith) c.in_ok-repeat.repeat c.in_ok-repeat.ensures.reads.0 (view_times c.in_ok-times.times) c.in_ok-times.behind g.after g.inside g.settles c.in_err-statement.field-0.0 c.in_err-statement.ensures)

pub loop_statement-returns : goal.loop_statement-returns
loop_statement-returns t c =
    let g = c.in_ok-times.ensures in
    let s = c.in_ok-statement.ensures in
    record {
      settles = rw (c.in_ok-count.ensures.ok, c.in_ok-statement-2.ensures.ok) (loop_given c.args.tokens.now c.args.at c.args.depth (c.args.depth + 1) (omega arith) c.in_ok-repeat.repeat c.in_ok-repeat.ensures.reads.0 (view_times c.in_ok-times.times) c.in_ok-times.behind g.after g.inside g.settles (view_body_statement c.in_ok-statement.statement) c.in_ok-statement.after s.after s.settles);
      after = omega (arith, g.after, s.after);
      inside = s.inside;
      no_else = rw c.in_ok-statement-2.ensures.ok s.no_else;
    }

pub statement-returns-then-is-2 : goal.statement-returns-then-is-2
statement-returns-then-is-2 t c = reads_open_on (statement_family c.args.depth) c.args.tokens.now c.args.at c.args.at view_body_statement body_ends_open (block_family c.args.depth) c.block.result c.block.ensures (is_block c.args.tokens.now c.args.at c.args.depth (search rules) (search rules))

pub statement-returns-then-is-3 : goal.statement-returns-then-is-3
statement-returns-then-is-3 t c = reads_open_on (statement_family c.args.depth) c.args.tokens.now c.args.at c.args.at view_body_statement body_ends_open (if_family c.args.depth) c.if_statement.result c.if_statement.ensures (is_if c.args.tokens.now c.args.at c.args.depth (search rules) (search rules) (search rules))

pub statement-returns-then-is-4 : goal.statement-returns-then-is-4
statement-returns-then-is-4 t c = reads_open_on (statement_family c.args.depth) c.args.tokens.now c.args.at c.args.at view_body_statement body_ends_open (loop_family c.args.depth) c.loop_statement.result c.loop_statement.ensures (is_loop c.args.tokens.now c.args.at c.args.depth (search rules) (search rules) (search rules) (search rules))

pub statement-returns-then-begins_plain : goal.statement-returns-then-begins_plain
statement-returns-then-begins_plain t c = reads_open_on (statement_family c.args.depth) c.args.tokens.now c.args.at c.args.at view_body_statement body_ends_open (local_family c.args.depth) c.local.result c.local.ensures (is_local c.args.tokens.now c.args.at c.args.depth (search rules) (search rules) (search rules) (search rules) (search rules))

pub statement-returns : goal.statement-returns
statement-returns t c = reads_open_on (statement_family c.args.depth) c.args.tokens.now c.args.at c.args.at view_body_statement body_ends_open (named_family c.args.depth) c.named.result c.named.ensures (is_named c.args.tokens.now c.args.at c.args.depth (search rules) (search rules) (search rules) (search rules) (search rules))

pub statements-statements-init : goal.statements-statements-init
statements-statements-init t c = rw c.new-statements.ensures.items (list_begins (is_other kind.RightBrace) (nested_family c.args.depth) c.args.tokens.now (c.args.at - 1) c.args.at (omega (arith, c.requires.behind)) c.requires.inside)

pub statements-returns-in_err-statement : goal.statements-returns-in_err-statement
statements-returns-in_err-statement t c =
    let p = err_from_is_err_and c.from_residual.result c.from_residual.ensures.1 in
    let l = c.statements.invariant in
    rw (p.1, p.2) (list_fails (is_other kind.RightBrace) (nested_family c.args.depth) c.args.tokens.now (c.args.at - 1) c.args.at (map view_body_statement c.statements.statements.items) c.statements.place l (search rules) c.in_err-statement.field-0.0 (nested_fault c.args.tokens.now (c.args.at - 1) c.statements.place c.args.depth (c.args.depth + 1) (omega arith) (omega (arith, l.behind, l.reached)) l.inside c.in_err-statement.field-0.0 c.in_err-statement.ensures))

pub statements-statements-preserved : goal.statements-statements-preserved
statements-statements-preserved t c =
    let l = c.statements.invariant in
    let h = c.in_ok-statement.ensures in
    rw (c.in_ok-push.ensures.ok, map-append) (list_turns (is_other kind.RightBrace) (nested_family c.args.depth) c.args.tokens.now (c.args.at - 1) c.args.at (map view_body_statement c.statements.statements.items) c.statements.place l (search rules) (view_body_statement c.in_ok-statement.statement) c.in_ok-statement.after (nested_settles c.args.tokens.now (c.args.at - 1) c.statements.place c.args.depth (c.args.depth + 1) (omega arith) _ (omega (arith, l.behind, l.reached)) l.inside h.settles) (omega (arith, h.after)) h.inside)

pub statements-returns : goal.statements-returns
statements-returns t c =
    let l = c.statements.invariant in
    record {
      settles = list_ends (is_other kind.RightBrace) (nested_family c.args.depth) c.args.tokens.now (c.args.at - 1) c.args.at (map view_body_statement c.statements.statements.items) c.statements.place l (search rules);
      after = omega (arith, l.reached);
      inside = l.inside;
    }
