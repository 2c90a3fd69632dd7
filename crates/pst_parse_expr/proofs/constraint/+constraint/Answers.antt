use Rattle.std.proofs.Common.{arith, rules, ◌-◌, ◌+◌}
use Rattle.std.specs.Prelude.{map}
use Rattle.std.proofs.lemmas.List.{map-append}
use Rattle.std.proofs.lemmas.Result.{err_from_is_err_and}
use Rattle.pst_token.specs.declared.kind.Kind.TheVariants as kind
use Rattle.pst_ast.specs.ExpressionView.{view_expr}
use Rattle.pst_ast.specs.ConstraintView.{view_constraint, view_constraint_item}
use Rattle.pst_ast.specs.ConstraintProper.{constraint_ends_open, item_ends_open}
use Rattle.pst_reading.proofs.Giving.{later, later_fault}
use Rattle.pst_reading.proofs.Lists.{list_begins, list_turns, list_fails, list_ends}
use Rattle.pst_reading.proofs.Reaching.{reads_open_on}
use Rattle.pst_parse_expr.specs.Constraints.{is_other}
use Rattle.pst_parse_expr.specs.ConstraintFamilies.{if_family, unique_family, foreach_family, expr_item_family, item_family, block_family, set_family, view_condition, view_subscript}
use Rattle.pst_parse_expr.proofs.ConstraintRules.{block_view, expr_item_fails, semicolon_fails, expr_given, arrow_fails, implied_fails, implies_given, if_condition_fails, then_fails, if_given, otherwise_fails, if_else_given, foreach_rest_fails, foreach_index_fails, foreach_set_fails, foreach_given, is_if, is_unique, is_foreach, is_expr, is_block, one_fails, one_given, block_items_fail, block_brace_fails, block_given}
use Rattle.pst_parse_expr.proofs.constraint.+constraint.Goals as goal

pub block-returns-in_err-items : goal.block-returns-in_err-items
block-returns-in_err-items t c =
    let p = err_from_is_err_and c.from_residual-in_err-items.result c.from_residual-in_err-items.ensures.1 in
    rw (p.1, p.2) (block_items_fail c.args.tokens.now c.args.at c.args.depth (c.args.depth + 1) (omega arith) c.in_ok-left_brace.left_brace c.in_ok-left_brace.ensures.reads.0 c.in_err-items.field-0.0 c.in_err-items.ensures)

pub block-returns-in_err-right_brace : goal.block-returns-in_err-right_brace
block-returns-in_err-right_brace t c =
    let p = err_from_is_err_and c.from_residual-in_err-right_brace.result c.from_residual-in_err-right_brace.ensures.1 in
    let l = c.in_ok-items.ensures in
    rw (p.1, p.2) (block_brace_fails c.args.tokens.now c.args.at c.args.depth (c.args.depth + 1) (omega arith) c.in_ok-left_brace.left_brace c.in_ok-left_brace.ensures.reads.0 (map view_constraint_item c.in_ok-items.items.items) c.in_ok-items.after l.after l.inside l.settles c.in_err-right_brace.field-0.0 c.in_err-right_brace.ensures.reads)

pub block-returns : goal.block-returns
block-returns t c =
    let l = c.in_ok-items.ensures in
    record {
      settles = rw block_view (block_given c.args.tokens.now c.args.at c.args.depth (c.args.depth + 1) (omega arith) c.in_ok-left_brace.left_brace c.in_ok-left_brace.ensures.reads.0 (map view_constraint_item c.in_ok-items.items.items) c.in_ok-items.after l.after l.inside l.settles c.in_ok-right_brace.right_brace c.in_ok-right_brace.ensures.reads.0);
      after = omega (arith, l.after);
      inside = c.in_ok-right_brace.ensures.reads.1;
      no_else = λ opens. absurd cc;
    }

pub expr_item-returns-in_err-expr : goal.expr_item-returns-in_err-expr
expr_item-returns-in_err-expr t c =
    let p = err_from_is_err_and c.from_residual.result c.from_residual.ensures.1 in
    rw (p.1, p.2) (expr_item_fails c.args.tokens.now c.args.at c.args.depth c.in_err-expr.field-0.0 c.in_err-expr.ensures)

pub expr_item-returns-in_err-arrow : goal.expr_item-returns-in_err-arrow
expr_item-returns-in_err-arrow t c =
    let p = err_from_is_err_and c.from_residual-in_err-arrow.result c.from_residual-in_err-arrow.ensures.1 in
    let e = c.in_ok-expr.ensures in
    rw (p.1, p.2) (arrow_fails c.args.tokens.now c.args.at c.args.depth (view_expr c.in_ok-expr.expr) c.in_ok-expr.after e.after e.inside e.settles (search rules) c.in_err-arrow.field-0.0 c.in_err-arrow.ensures.reads)

pub expr_item-returns-in_err-set : goal.expr_item-returns-in_err-set
expr_item-returns-in_err-set t c =
    let p = err_from_is_err_and c.from_residual-in_err-set.result c.from_residual-in_err-set.ensures.1 in
    let e = c.in_ok-expr.ensures in
    rw (p.1, p.2) (implied_fails c.args.tokens.now c.args.at c.args.depth (view_expr c.in_ok-expr.expr) c.in_ok-expr.after e.after e.inside e.settles (search rules) c.in_ok-arrow.arrow c.in_ok-arrow.ensures.reads.0 c.in_ok-arrow.ensures.reads.1 c.in_err-set.field-0.0 c.in_err-set.ensures)

pub expr_item-returns-then-is : goal.expr_item-returns-then-is
expr_item-returns-then-is t c =
    let e = c.in_ok-expr.ensures in
    let s = c.in_ok-set.ensures in
    record {
      settles = rw c.in_ok-boxed.ensures.ok (implies_given c.args.tokens.now c.args.at c.args.depth (view_expr c.in_ok-expr.expr) c.in_ok-expr.after e.after e.inside e.settles (search rules) c.in_ok-arrow.arrow c.in_ok-arrow.ensures.reads.0 c.in_ok-arrow.ensures.reads.1 (view_constraint c.in_ok-set.set) c.in_ok-set.end (omega (arith, s.after)) s.settles);
      after = omega (arith, e.after, s.after);
      inside = s.inside;
      no_else = rw c.in_ok-boxed.ensures.ok s.no_else;
    }

pub expr_item-returns-in_err-semicolon : goal.expr_item-returns-in_err-semicolon
expr_item-returns-in_err-semicolon t c =
    let p = err_from_is_err_and c.from_residual-in_err-semicolon.result c.from_residual-in_err-semicolon.ensures.1 in
    let e = c.in_ok-expr.ensures in
    rw (p.1, p.2) (semicolon_fails c.args.tokens.now c.args.at c.args.depth (view_expr c.in_ok-expr.expr) c.in_ok-expr.after e.after e.inside e.settles (search rules) c.in_err-semicolon.field-0.0 c.in_err-semicolon.ensures.reads)

pub expr_item-returns : goal.expr_item-returns
expr_item-returns t c =
    let e = c.in_ok-expr.ensures in
    record {
      settles = expr_given c.args.tokens.now c.args.at c.args.depth (view_expr c.in_ok-expr.expr) c.in_ok-expr.after e.after e.inside e.settles (search rules) c.in_ok-semicolon.semicolon c.in_ok-semicolon.ensures.reads.0;
      after = omega (arith, e.after);
      inside = c.in_ok-semicolon.ensures.reads.1;
      no_else = λ opens. absurd cc;
    }

pub foreach_item-returns-in_err-rest : goal.foreach_item-returns-in_err-rest
foreach_item-returns-in_err-rest t c =
    let p = err_from_is_err_and c.from_residual-in_err-rest.result c.from_residual-in_err-rest.ensures.1 in
    rw (p.1, p.2) (foreach_rest_fails c.args.tokens.now c.args.at c.args.depth c.in_ok-foreach.foreach c.in_ok-foreach.ensures.reads.0 c.in_ok-left_parenthesis.left_parenthesis c.in_ok-left_parenthesis.ensures.reads.0 c.in_ok-first.first c.in_ok-first.ensures.reads.0 c.in_err-rest.field-0.0 c.in_err-rest.ensures)

pub foreach_item-returns-in_err-index : goal.foreach_item-returns-in_err-index
foreach_item-returns-in_err-index t c =
    let p = err_from_is_err_and c.from_residual-in_err-index.result c.from_residual-in_err-index.ensures.1 in
    let l = c.in_ok-rest.ensures in
    rw (p.1, p.2) (foreach_index_fails c.args.tokens.now c.args.at c.args.depth c.in_ok-foreach.foreach c.in_ok-foreach.ensures.reads.0 c.in_ok-left_parenthesis.left_parenthesis c.in_ok-left_parenthesis.ensures.reads.0 c.in_ok-first.first c.in_ok-first.ensures.reads.0 c.in_ok-rest.rest.items c.in_ok-rest.behind l.after l.settles c.in_err-index.field-0.0 c.in_err-index.ensures)

pub foreach_item-returns-in_err-set : goal.foreach_item-returns-in_err-set
foreach_item-returns-in_err-set t c =
    let p = err_from_is_err_and c.from_residual-in_err-set.result c.from_residual-in_err-set.ensures.1 in
    let l = c.in_ok-rest.ensures in
    let i = c.in_ok-index.ensures in
    rw (p.1, p.2) (foreach_set_fails c.args.tokens.now c.args.at c.args.depth c.in_ok-foreach.foreach c.in_ok-foreach.ensures.reads.0 c.in_ok-left_parenthesis.left_parenthesis c.in_ok-left_parenthesis.ensures.reads.0 c.in_ok-first.first c.in_ok-first.ensures.reads.0 c.in_ok-rest.rest.items c.in_ok-rest.behind l.after l.settles (view_subscript c.in_ok-index.index) c.in_ok-index.after i.after i.inside i.settles c.in_err-set.field-0.0 c.in_err-set.ensures)

pub foreach_item-returns : goal.foreach_item-returns
foreach_item-returns t c =
    let l = c.in_ok-rest.ensures in
    let i = c.in_ok-index.ensures in
    let s = c.in_ok-set.ensures in
    record {
      settles = rw c.in_ok-boxed.ensures.ok (foreach_given c.args.tokens.now c.args.at c.args.depth c.in_ok-foreach.foreach c.in_ok-foreach.ensures.reads.0 c.in_ok-left_parenthesis.left_parenthesis c.in_ok-left_parenthesis.ensures.reads.0 c.in_ok-first.first c.in_ok-first.ensures.reads.0 c.in_ok-rest.rest.items c.in_ok-rest.behind l.after l.settles (view_subscript c.in_ok-index.index) c.in_ok-index.after i.after i.inside i.settles (view_constraint c.in_ok-set.set) c.in_ok-set.end (omega (arith, s.after)) s.settles);
      after = omega (arith, l.after, i.after, s.after);
      inside = s.inside;
      no_else = rw c.in_ok-boxed.ensures.ok s.no_else;
    }

pub if_item-returns-in_err-condition : goal.if_item-returns-in_err-condition
if_item-returns-in_err-condition t c =
    let p = err_from_is_err_and c.from_residual-in_err-condition.result c.from_residual-in_err-condition.ensures.1 in
    rw (p.1, p.2) (if_condition_fails c.args.tokens.now c.args.at c.args.depth c.in_ok-if_.if_ c.in_ok-if_.ensures.reads.0 c.in_err-condition.field-0.0 c.in_err-condition.ensures)

pub if_item-returns-in_err-then : goal.if_item-returns-in_err-then
if_item-returns-in_err-then t c =
    let p = err_from_is_err_and c.from_residual-in_err-then.result c.from_residual-in_err-then.ensures.1 in
    let g = c.in_ok-condition.ensures in
    rw (p.1, p.2) (then_fails c.args.tokens.now c.args.at c.args.depth c.in_ok-if_.if_ c.in_ok-if_.ensures.reads.0 (view_condition c.in_ok-condition.condition) c.in_ok-condition.behind g.after g.inside g.settles c.in_err-then.field-0.0 c.in_err-then.ensures)

pub if_item-returns-then-not-is : goal.if_item-returns-then-not-is
if_item-returns-then-not-is t c =
    let g = c.in_ok-condition.ensures in
    let s = c.in_ok-then.ensures in
    record {
      settles = rw c.in_ok-then-2.ensures.ok (if_given c.args.tokens.now c.args.at c.args.depth c.in_ok-if_.if_ c.in_ok-if_.ensures.reads.0 (view_condition c.in_ok-condition.condition) c.in_ok-condition.behind g.after g.inside g.settles (view_constraint c.in_ok-then.then) c.in_ok-then.after s.after s.inside s.settles s.no_else (search rules));
      after = omega (arith, g.after, s.after);
      inside = s.inside;
      no_else = λ opens. search rules;
    }

pub if_item-returns-in_err-otherwise : goal.if_item-returns-in_err-otherwise
if_item-returns-in_err-otherwise t c =
    let p = err_from_is_err_and c.from_residual-in_err-otherwise.result c.from_residual-in_err-otherwise.ensures.1 in
    let g = c.in_ok-condition.ensures in
    let s = c.in_ok-then.ensures in
    rw (p.1, p.2) (otherwise_fails c.args.tokens.now c.args.at c.args.depth c.in_ok-if_.if_ c.in_ok-if_.ensures.reads.0 (view_condition c.in_ok-condition.condition) c.in_ok-condition.behind g.after g.inside g.settles (view_constraint c.in_ok-then.then) c.in_ok-then.after s.after s.inside s.settles s.no_else (search rules) c.in_ok-else_.else_ c.in_ok-else_.ensures.reads.0 c.in_ok-else_.ensures.reads.1 c.in_err-otherwise.field-0.0 c.in_err-otherwise.ensures)

pub if_item-returns : goal.if_item-returns
if_item-returns t c =
    let g = c.in_ok-condition.ensures in
    let s = c.in_ok-then.ensures in
    let o = c.in_ok-otherwise.ensures in
    record {
      settles = rw (c.in_ok-then-2.ensures.ok, c.in_ok-boxed.ensures.ok) (if_else_given c.args.tokens.now c.args.at c.args.depth c.in_ok-if_.if_ c.in_ok-if_.ensures.reads.0 (view_condition c.in_ok-condition.condition) c.in_ok-condition.behind g.after g.inside g.settles (view_constraint c.in_ok-then.then) c.in_ok-then.after s.after s.inside s.settles s.no_else (search rules) c.in_ok-else_.else_ c.in_ok-else_.ensures.reads.0 c.in_ok-else_.ensures.reads.1 (view_constraint c.in_ok-otherwise.otherwise) c.in_ok-otherwise.end (omega (arith, o.after)) o.settles);
      after = omega (arith, g.after, s.after, o.after);
      inside = o.inside;
      no_else = rw c.in_ok-boxed.ensures.ok o.no_else;
    }

pub item-returns-then-is-2 : goal.item-returns-then-is-2
item-returns-then-is-2 t c = reads_open_on (item_family c.args.depth) c.args.tokens.now c.args.at c.args.at view_constraint_item item_ends_open (if_family c.args.depth) c.if_item.result c.if_item.ensures (is_if c.args.tokens.now c.args.at c.args.depth (search rules) (search rules))

pub item-returns-then-is-3 : goal.item-returns-then-is-3
item-returns-then-is-3 t c = reads_open_on (item_family c.args.depth) c.args.tokens.now c.args.at c.args.at view_constraint_item item_ends_open (unique_family c.args.depth) c.unique_item.result c.unique_item.ensures (is_unique c.args.tokens.now c.args.at c.args.depth (search rules) (search rules) (search rules))

pub item-returns-then-is-4 : goal.item-returns-then-is-4
item-returns-then-is-4 t c = reads_open_on (item_family c.args.depth) c.args.tokens.now c.args.at c.args.at view_constraint_item item_ends_open (foreach_family c.args.depth) c.foreach_item.result c.foreach_item.ensures (is_foreach c.args.tokens.now c.args.at c.args.depth (search rules) (search rules) (search rules) (search rules))

pub item-returns : goal.item-returns
item-returns t c = reads_open_on (item_family c.args.depth) c.args.tokens.now c.args.at c.args.at view_constraint_item item_ends_open (expr_item_family c.args.depth) c.expr_item.result c.expr_item.ensures (is_expr c.args.tokens.now c.args.at c.args.depth (search rules) (search rules) (search rules) (search rules))

pub items-items-init : goal.items-items-init
items-items-init t c = rw c.new-items.ensures.items (list_begins (is_other kind.RightBrace) (item_family c.args.depth) c.args.tokens.now (c.args.at - 1) c.args.at (omega (arith, c.requires.behind)) c.requires.inside)

pub items-returns-in_err-item : goal.items-returns-in_err-item
items-returns-in_err-item t c =
    let p = err_from_is_err_and c.from_residual.result c.from_residual.ensures.1 in
    let l = c.items.invariant in
    rw (p.1, p.2) (list_fails (is_other kind.RightBrace) (item_family c.args.depth) c.args.tokens.now (c.args.at - 1) c.args.at (map view_constraint_item c.items.items.items) c.items.place l (search rules) c.in_err-item.field-0.0 (later_fault c.args.tokens.now (c.args.at - 1) (item_family c.args.depth) c.items.place c.in_err-item.field-0.0 (omega (arith, l.reached)) c.in_err-item.ensures))

pub items-items-preserved : goal.items-items-preserved
items-items-preserved t c =
    let l = c.items.invariant in
    let h = c.in_ok-item.ensures in
    rw (c.in_ok-push.ensures.ok, map-append) (list_turns (is_other kind.RightBrace) (item_family c.args.depth) c.args.tokens.now (c.args.at - 1) c.args.at (map view_constraint_item c.items.items.items) c.items.place l (search rules) (view_constraint_item c.in_ok-item.item) c.in_ok-item.after (later c.args.tokens.now (c.args.at - 1) (item_family c.args.depth) c.items.place _ (omega (arith, l.reached)) h.settles) (omega (arith, h.after)) h.inside)

pub items-returns : goal.items-returns
items-returns t c =
    let l = c.items.invariant in
    record {
      settles = list_ends (is_other kind.RightBrace) (item_family c.args.depth) c.args.tokens.now (c.args.at - 1) c.args.at (map view_constraint_item c.items.items.items) c.items.place l (search rules);
      after = omega (arith, l.reached);
      inside = l.inside;
    }

pub set-returns-then-is : goal.set-returns-then-is
set-returns-then-is t c = reads_open_on (set_family c.args.depth) c.args.tokens.now c.args.at c.args.at view_constraint constraint_ends_open (block_family c.args.depth) c.block.result c.block.ensures (is_block c.args.tokens.now c.args.at c.args.depth (search rules))

pub set-returns-in_err-item : goal.set-returns-in_err-item
set-returns-in_err-item t c =
    let p = err_from_is_err_and c.from_residual.result c.from_residual.ensures.1 in
    rw (p.1, p.2) (one_fails c.args.tokens.now c.args.at c.args.depth (c.args.depth + 1) (omega arith) (search rules) c.in_err-item.field-0.0 c.in_err-item.ensures)

pub set-returns : goal.set-returns
set-returns t c =
    let i = c.in_ok-item.ensures in
    record {
      settles = rw c.in_ok-boxed.ensures.ok (one_given c.args.tokens.now c.args.at c.args.depth (c.args.depth + 1) (omega arith) (search rules) (view_constraint_item c.in_ok-item.item) c.in_ok-item.after i.after i.settles);
      after = i.after;
      inside = i.inside;
      no_else = rw c.in_ok-boxed.ensures.ok i.no_else;
    }
