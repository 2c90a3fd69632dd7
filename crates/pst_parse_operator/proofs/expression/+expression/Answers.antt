use Rattle.std.proofs.lemmas.Result.{err_from_is_err_and}
use Rattle.std.proofs.Common.{subst}
use Rattle.std.proofs.Common.{Err}
use Rattle.pst_token.specs.declared.kind.Kind.TheVariants as kind
use Rattle.pst_ast.specs.declared.expression.PartNode.{roll-PartNode}
use Rattle.pst_ast.specs.Limits.{counted, is_over}
use Rattle.pst_reading.specs.Parser.{Took, run, mark_by}
use Rattle.pst_reading.specs.Gives.{SettlesFrom, FailsFrom, Expects}
use Rattle.pst_parse_operator.proofs.Loops.{range_low_fails, single_given}
use Rattle.pst_parse_operator.proofs.Operations.{Begun, operator_inside, operation_deep, operation_fails, operation_given, membership_gives, level_begins, level_ends, level_fails, level_turns}
use Rattle.pst_parse_operator.proofs.expression.+expression.Goals.{level-then-has_operator, level-else-has_operator+then-has_in}
use Rattle.pst_parse_operator.proofs.Turns.{dotted_view, dotted_counts, ranges_view, part_more, range_more, ranges_begin, ranges_end, ranges_fail, ranges_turn, path_begins, path_ends, path_fails, path_turns}
use Rattle.pst_parse_operator.proofs.Rules.{part_view, between_given, between_fails, index_inner_fails, index_close_fails, index_given, plain_fails, plain_given, prefix_deep, prefix_inside, prefix_fails, prefix_given, zero_fails, zero_given, next_part_fails, next_part_given, next_part_counts, next_view, path_part_fails, path_part_given, group_inner_fails, group_close_fails, group_given, in_ranges_fail, in_close_fails, in_given, item_fails, item_given, path_index_fails, left_fails, first_range_fails}
use Rattle.std.proofs.Common.{rules, arith, inl, inr, is_some, ◌≡◌, ◌+◌, ◌-◌, drop, ℕ, false}
use Rattle.pst_ast.specs.ExpressionView.{view_expr, view_unary, view_primary, view_path, view_next_part, view_ranges, view_range}
use Rattle.pst_ast.specs.ExpressionOperators.{operators_expr}
use Rattle.pst_reading.specs.Parser.{next}
use Rattle.pst_parse_operator.specs.Operators.{operator_of, is_in}
use Rattle.pst_parse_operator.specs.Families.{part_row, range_row, view_index_option, level_family, ranges_family, index_family}
use Rattle.pst_parse_operator.proofs.expression.+expression.Goals as goal

-- src/expression.rt:353:36
pub index-returns-in_err-expr : goal.index-returns-in_err-expr
index-returns-in_err-expr t c =
    let p = err_from_is_err_and c.from_residual-in_err-expr.result c.from_residual-in_err-expr.ensures.1 in
    rw (p.1, p.2) (index_inner_fails c.args.tokens.now c.args.at c.args.depth c.args.before (c.args.depth + 1) (omega arith) (search rules) c.in_ok-left_bracket.left_bracket c.in_ok-left_bracket.ensures.reads.0 c.in_ok-left_bracket.ensures.reads.1 c.in_err-expr.field-0.0 c.in_err-expr.ensures)

-- src/expression.rt:354:25
pub index-returns-in_err-right_bracket : goal.index-returns-in_err-right_bracket
index-returns-in_err-right_bracket t c =
    let p = err_from_is_err_and c.from_residual-in_err-right_bracket.result c.from_residual-in_err-right_bracket.ensures.1 in
    let fails = subst (λ (k : ℕ). Expects (mark_by kind.RightBracket (counted (c.args.depth + 1) k)) c.args.tokens.now c.in_ok-expr.after (Err c.in_err-right_bracket.field-0.0)) c.in_ok-expr.ensures.counted c.in_err-right_bracket.ensures.reads in
    rw (p.1, p.2) (index_close_fails c.args.tokens.now c.args.at c.args.depth c.args.before (c.args.depth + 1) (omega arith) (search rules) c.in_ok-left_bracket.left_bracket c.in_ok-left_bracket.ensures.reads.0 c.in_ok-left_bracket.ensures.reads.1 (view_expr c.in_ok-expr.expr) c.in_ok-expr.after c.in_ok-expr.ensures.settles (omega (arith, c.in_ok-expr.ensures.after)) c.in_ok-expr.ensures.inside c.in_err-right_bracket.field-0.0 fails)

-- src/expression.rt:336:1
pub index-returns : goal.index-returns
index-returns t c = record {
  settles =
      let closed = subst (λ (k : ℕ). run is_over (mark_by kind.RightBracket (counted (c.args.depth + 1) k)) (drop c.in_ok-expr.after c.args.tokens.now) ≡ Took c.in_ok-right_bracket.right_bracket (drop (c.in_ok-expr.after + 1) c.args.tokens.now)) c.in_ok-expr.ensures.counted c.in_ok-right_bracket.ensures.reads.0 in
      rw c.in_ok-boxed.ensures.ok (index_given c.args.tokens.now c.args.at c.args.depth c.args.before (c.args.depth + 1) (omega arith) (search rules) c.in_ok-left_bracket.left_bracket c.in_ok-left_bracket.ensures.reads.0 c.in_ok-left_bracket.ensures.reads.1 (view_expr c.in_ok-expr.expr) c.in_ok-expr.after c.in_ok-expr.ensures.settles (omega (arith, c.in_ok-expr.ensures.after)) c.in_ok-expr.ensures.inside c.in_ok-right_bracket.right_bracket closed);
  after = omega (arith, c.in_ok-expr.ensures.after);
  inside = c.in_ok-right_bracket.ensures.reads.1;
  counted = rw c.in_ok-boxed.ensures.ok c.in_ok-expr.ensures.counted;
  within = c.in_ok-expr.ensures.within;
}

-- src/expression.rt:42:40
pub level-returns-in_err-part : goal.level-returns-in_err-part
level-returns-in_err-part t c =
    let p = err_from_is_err_and c.from_residual.result c.from_residual.ensures.1 in
    rw (p.1, p.2) (zero_fails c.args.tokens.now c.args.at c.args.depth c.args.before c.args.above (search rules) c.in_err-part.field-0.0 c.in_err-part.ensures)

-- src/expression.rt:43:9
pub level-returns-then-above-eq0 : goal.level-returns-then-above-eq0
level-returns-then-above-eq0 t c = record {
  settles = zero_given c.args.tokens.now c.args.at c.args.depth c.args.before c.args.above (search rules) (view_unary c.in_ok-part.part) c.in_ok-part.after c.in_ok-part.ensures.settles;
  after = c.in_ok-part.ensures.after;
  inside = c.in_ok-part.ensures.inside;
  counted = c.in_ok-part.ensures.counted;
  within = c.in_ok-part.ensures.within;
}

-- src/expression.rt:45:44
pub level-returns-in_err-left : goal.level-returns-in_err-left
level-returns-in_err-left t c =
    let p = err_from_is_err_and c.from_residual-in_err-left.result c.from_residual-in_err-left.ensures.1 in
    rw (p.1, p.2) (left_fails c.args.tokens.now c.args.at c.args.depth c.args.before c.args.above (c.args.above - 1) (search (rules, arith)) c.in_err-left.field-0.0 c.in_err-left.ensures)

-- src/expression.rt:46:5
pub level-operations-init : goal.level-operations-init
level-operations-init t c = level_begins c.args.tokens.now c.args.at (c.args.above - 1) c.args.depth c.args.before (view_expr c.in_ok-left.left) c.in_ok-left.place c.in_ok-left.count c.in_ok-left.ensures.settles c.in_ok-left.ensures.after c.in_ok-left.ensures.inside c.in_ok-left.ensures.counted c.in_ok-left.ensures.within

-- src/expression.rt:50:13
pub level-returns-in_err-all : goal.level-returns-in_err-all
level-returns-in_err-all t c =
    let e : 10 - c.args.above ≡ 9 - (c.args.above - 1) = omega arith in
    let begun : Begun (10 - c.args.above) (next (drop c.operations.place c.args.tokens.now)) = elim c.if-has_operator.branch [ level-then-has_operator w ↦ inl (search rules) | level-else-has_operator+then-has_in w ↦ inr (search rules) ] in
    let begun' = subst (λ (k : ℕ). Begun k (next (drop c.operations.place c.args.tokens.now))) e begun in
    let p = err_from_is_err_and c.from_residual-in_err-all.result c.from_residual-in_err-all.ensures.1 in
    rw (p.1, p.2) (level_fails c.args.tokens.now c.args.at (c.args.above - 1) c.args.depth c.args.before c.args.above (search (rules, arith)) (view_expr c.operations.left) c.operations.place c.operations.count c.operations.invariant begun' c.in_err-all.field-0.0 c.in_err-all.ensures)

-- src/expression.rt:46:5
pub level-operations-preserved : goal.level-operations-preserved
level-operations-preserved t c =
    let e : 10 - c.args.above ≡ 9 - (c.args.above - 1) = omega arith in
    let begun : Begun (10 - c.args.above) (next (drop c.operations.place c.args.tokens.now)) = elim c.if-has_operator.branch [ level-then-has_operator w ↦ inl (search rules) | level-else-has_operator+then-has_in w ↦ inr (search rules) ] in
    let begun' = subst (λ (k : ℕ). Begun k (next (drop c.operations.place c.args.tokens.now))) e begun in
    level_turns c.args.tokens.now c.args.at (c.args.above - 1) c.args.depth c.args.before c.args.above (search (rules, arith)) (view_expr c.operations.left) c.operations.place c.operations.count c.operations.invariant begun' (view_expr c.in_ok-all.all) c.in_ok-all.after c.in_ok-all.operators c.in_ok-all.ensures.settles c.in_ok-all.ensures.after c.in_ok-all.ensures.inside c.in_ok-all.ensures.counted c.in_ok-all.ensures.within

-- src/expression.rt:26:1
pub level-returns : goal.level-returns
level-returns t c = record {
  settles =
      let e : 10 - c.args.above ≡ 9 - (c.args.above - 1) = omega arith in
      let no_binary : is_some (operator_of (10 - c.args.above) (next (drop c.operations.place c.args.tokens.now))) ≡ false = search rules in
      let no_in : is_in (10 - c.args.above) (next (drop c.operations.place c.args.tokens.now)) ≡ false = search rules in
      level_ends c.args.tokens.now c.args.at (c.args.above - 1) c.args.depth c.args.before c.args.above (search (rules, arith)) (view_expr c.operations.left) c.operations.place c.operations.count c.operations.invariant (subst (λ (k : ℕ). is_some (operator_of k (next (drop c.operations.place c.args.tokens.now))) ≡ false) e no_binary) (subst (λ (k : ℕ). is_in k (next (drop c.operations.place c.args.tokens.now)) ≡ false) e no_in);
  after = omega (arith, c.operations.invariant.after, c.operations.invariant.reached);
  inside = c.operations.invariant.inside;
  counted = c.operations.invariant.counted;
  within = c.operations.invariant.within;
}

-- src/expression.rt:110:38
pub membership-returns-in_err-ranges : goal.membership-returns-in_err-ranges
membership-returns-in_err-ranges t c =
    let p = err_from_is_err_and c.from_residual-in_err-ranges.result c.from_residual-in_err-ranges.ensures.1 in
    let e : c.args.at + 2 ≡ c.args.at + 1 + 1 = omega arith in
    rw (p.1, p.2) (in_ranges_fail c.args.tokens.now c.args.at c.args.depth (c.args.before - operators_expr (view_expr c.args.left)) (c.args.before + 1) (view_expr c.args.left) (omega (arith, c.requires.counted)) c.in_ok-in_.in_ c.in_ok-in_.ensures.reads.0 c.in_ok-left_bracket.left_bracket c.in_ok-left_bracket.ensures.reads.0 (c.args.at + 2 - 1) (omega arith) c.in_err-ranges.field-0.0 (subst (λ (k : ℕ). FailsFrom (ranges_family c.args.depth (c.args.before + 1)) c.args.tokens.now (c.args.at + 2 - 1) k c.in_err-ranges.field-0.0) e c.in_err-ranges.ensures))

-- src/expression.rt:111:25
pub membership-returns-in_err-right_bracket : goal.membership-returns-in_err-right_bracket
membership-returns-in_err-right_bracket t c =
    let p = err_from_is_err_and c.from_residual-in_err-right_bracket.result c.from_residual-in_err-right_bracket.ensures.1 in
    let e : c.args.at + 2 ≡ c.args.at + 1 + 1 = omega arith in
    let fails = subst (λ (k : ℕ). Expects (mark_by kind.RightBracket (counted c.args.depth k)) c.args.tokens.now c.in_ok-ranges.after (Err c.in_err-right_bracket.field-0.0)) c.in_ok-ranges.ensures.counted c.in_err-right_bracket.ensures.reads in
    rw (p.1, p.2) (in_close_fails c.args.tokens.now c.args.at c.args.depth (c.args.before - operators_expr (view_expr c.args.left)) (c.args.before + 1) (view_expr c.args.left) (omega (arith, c.requires.counted)) c.in_ok-in_.in_ c.in_ok-in_.ensures.reads.0 c.in_ok-left_bracket.left_bracket c.in_ok-left_bracket.ensures.reads.0 (c.args.at + 2 - 1) (omega arith) (view_ranges c.in_ok-ranges.ranges) c.in_ok-ranges.after (subst (λ (k : ℕ). SettlesFrom (ranges_family c.args.depth (c.args.before + 1)) c.args.tokens.now (c.args.at + 2 - 1) k (Took (view_ranges c.in_ok-ranges.ranges) (drop c.in_ok-ranges.after c.args.tokens.now))) e c.in_ok-ranges.ensures.settles) (omega (arith, c.in_ok-ranges.ensures.after)) c.in_ok-ranges.ensures.inside c.in_err-right_bracket.field-0.0 fails)

-- src/expression.rt:93:1
pub membership-returns : goal.membership-returns
membership-returns t c = record {
  settles =
      let e : c.args.at + 2 ≡ c.args.at + 1 + 1 = omega arith in
      let closed = subst (λ (k : ℕ). run is_over (mark_by kind.RightBracket (counted c.args.depth k)) (drop c.in_ok-ranges.after c.args.tokens.now) ≡ Took c.in_ok-right_bracket.right_bracket (drop (c.in_ok-ranges.after + 1) c.args.tokens.now)) c.in_ok-ranges.ensures.counted c.in_ok-right_bracket.ensures.reads.0 in
      rw c.in_ok-boxed.ensures.ok (in_given c.args.tokens.now c.args.at c.args.depth (c.args.before - operators_expr (view_expr c.args.left)) (c.args.before + 1) (view_expr c.args.left) (omega (arith, c.requires.counted)) c.in_ok-in_.in_ c.in_ok-in_.ensures.reads.0 c.in_ok-left_bracket.left_bracket c.in_ok-left_bracket.ensures.reads.0 (c.args.at + 2 - 1) (omega arith) (view_ranges c.in_ok-ranges.ranges) c.in_ok-ranges.after (subst (λ (k : ℕ). SettlesFrom (ranges_family c.args.depth (c.args.before + 1)) c.args.tokens.now (c.args.at + 2 - 1) k (Took (view_ranges c.in_ok-ranges.ranges) (drop c.in_ok-ranges.after c.args.tokens.now))) e c.in_ok-ranges.ensures.settles) (omega (arith, c.in_ok-ranges.ensures.after)) c.in_ok-ranges.ensures.inside c.in_ok-right_bracket.right_bracket closed);
  after = omega (arith, c.in_ok-ranges.ensures.after);
  inside = c.in_ok-right_bracket.ensures.reads.1;
  counted = rw c.in_ok-boxed.ensures.ok (omega (arith, c.in_ok-ranges.ensures.counted, c.requires.counted));
  within = c.in_ok-ranges.ensures.within;
}

-- src/expression.rt:330:37
pub next_part-returns-in_err-index : goal.next_part-returns-in_err-index
next_part-returns-in_err-index t c =
    let p = err_from_is_err_and c.from_residual-in_err-index.result c.from_residual-in_err-index.ensures.1 in
    let e : c.args.at + 2 ≡ c.args.at + 1 + 1 = omega arith in
    rw (p.1, p.2) (next_part_fails c.args.tokens.now c.args.at c.args.depth c.args.before c.in_ok-dot.dot c.in_ok-dot.ensures.reads.0 c.in_ok-name.name c.in_ok-name.ensures.reads.0 c.in_err-index.field-0.0 (subst (λ (k : ℕ). FailsFrom (index_family c.args.depth c.args.before) c.args.tokens.now k k c.in_err-index.field-0.0) e c.in_err-index.ensures))

-- src/expression.rt:315:1
pub next_part-returns : goal.next_part-returns
next_part-returns t c = record {
  settles =
      let e : c.args.at + 2 ≡ c.args.at + 1 + 1 = omega arith in
      rw next_view (next_part_given c.args.tokens.now c.args.at c.args.depth c.args.before c.in_ok-dot.dot c.in_ok-dot.ensures.reads.0 c.in_ok-name.name c.in_ok-name.ensures.reads.0 c.in_ok-index.index c.in_ok-index.after (subst (λ (k : ℕ). SettlesFrom (index_family c.args.depth c.args.before) c.args.tokens.now k k (Took (view_index_option c.in_ok-index.index) (drop c.in_ok-index.after c.args.tokens.now))) e c.in_ok-index.ensures.settles));
  after = omega (arith, c.in_ok-index.ensures.after);
  inside = c.in_ok-index.ensures.inside;
  counted = rw next_view (omega (arith, c.in_ok-index.ensures.counted, next_part_counts c.args.tokens.now c.args.at c.args.depth c.args.before c.in_ok-dot.dot c.in_ok-dot.ensures.reads.0 c.in_ok-name.name c.in_ok-name.ensures.reads.0 c.in_ok-index.index));
  within = c.in_ok-index.ensures.within;
}

-- src/expression.rt:77:9
pub operation-returns-in_default : goal.operation-returns-in_default
operation-returns-in_default t c = membership_gives c.args.tokens.now c.args.at c.args.above c.args.depth (c.args.before - operators_expr (view_expr c.args.left)) (view_expr c.args.left) (search rules) c.requires.begun c.membership.result c.membership.ensures

-- src/expression.rt:80:9
pub operation-returns-then-is_over : goal.operation-returns-then-is_over
operation-returns-then-is_over t c = operation_deep c.args.tokens.now c.args.at c.args.above c.args.depth (c.args.before - operators_expr (view_expr c.args.left)) (c.args.before + 1) (view_expr c.args.left) (omega (arith, c.requires.counted)) c.in-Some.operator (search rules) (search rules)

-- src/expression.rt:82:37
pub operation-level-requires : goal.operation-level-requires
operation-level-requires t c = let w = operator_inside (9 - c.args.above) c.args.tokens.now c.args.at c.in-Some.operator (search rules) in search (rules, arith, w)

-- src/expression.rt:82:37
pub operation-returns-in_err-right : goal.operation-returns-in_err-right
operation-returns-in_err-right t c =
    let p = err_from_is_err_and c.from_residual.result c.from_residual.ensures.1 in
    rw (p.1, p.2) (operation_fails c.args.tokens.now c.args.at c.args.above c.args.depth (c.args.before - operators_expr (view_expr c.args.left)) (c.args.before + 1) (view_expr c.args.left) (omega (arith, c.requires.counted)) c.in-Some.operator (search rules) (search rules) c.in_err-right.field-0.0 c.in_err-right.ensures)

-- src/expression.rt:59:1
pub operation-returns : goal.operation-returns
operation-returns t c = record {
  settles = rw (c.in_ok-boxed.ensures.ok, c.in_ok-boxed-2.ensures.ok) (operation_given c.args.tokens.now c.args.at c.args.above c.args.depth (c.args.before - operators_expr (view_expr c.args.left)) (c.args.before + 1) (view_expr c.args.left) (omega (arith, c.requires.counted)) c.in-Some.operator (search rules) (search rules) (view_expr c.in_ok-right.right) c.in_ok-right.after _ c.in_ok-right.ensures.settles);
  after = omega (arith, c.in_ok-right.ensures.after);
  inside = c.in_ok-right.ensures.inside;
  counted = rw (c.in_ok-boxed.ensures.ok, c.in_ok-boxed-2.ensures.ok) (omega (arith, c.in_ok-right.ensures.counted, c.requires.counted));
  within = c.in_ok-right.ensures.within;
}

-- src/expression.rt:297:29
pub path-returns-in_err-path : goal.path-returns-in_err-path
path-returns-in_err-path t c =
    let p = err_from_is_err_and c.from_residual-in_err-path.result c.from_residual-in_err-path.ensures.1 in
    rw (p.1, p.2) (item_fails c.args.tokens.now c.args.at c.args.depth c.args.before c.in_ok-name.name c.in_ok-name.ensures.reads.0 (search rules) c.in_err-path.field-0.0 c.in_err-path.ensures)

-- src/expression.rt:298:9
pub path-returns-then-is : goal.path-returns-then-is
path-returns-then-is t c = record {
  settles = item_given c.args.tokens.now c.args.at c.args.depth c.args.before c.in_ok-name.name c.in_ok-name.ensures.reads.0 (search rules) (view_path c.in_ok-path.path) c.in_ok-path.after c.in_ok-path.ensures.0;
  after = omega (arith, c.in_ok-path.ensures.1);
  inside = c.in_ok-path.ensures.2;
  counted = omega (arith, c.in_ok-path.ensures.3);
  within = c.requires.operators;
}

-- src/expression.rt:300:37
pub path-returns-in_err-index : goal.path-returns-in_err-index
path-returns-in_err-index t c =
    let p = err_from_is_err_and c.from_residual-in_err-index.result c.from_residual-in_err-index.ensures.1 in
    rw (p.1, p.2) (path_index_fails c.args.tokens.now c.args.at c.args.depth c.args.before c.in_ok-name.name c.in_ok-name.ensures.reads.0 (search rules) c.in_err-index.field-0.0 c.in_err-index.ensures)

-- src/expression.rt:305:5
pub path-parts-init : goal.path-parts-init
path-parts-init t c = rw (part_view, c.new-rest.ensures.items) (path_begins c.args.tokens.now c.args.at c.args.depth c.args.before c.in_ok-name.name c.in_ok-name.ensures.reads.0 (search rules) (view_index_option c.in_ok-index.index) c.in_ok-index.after c.in_ok-index.operators c.in_ok-index.ensures.settles c.in_ok-index.ensures.after c.in_ok-index.ensures.inside c.in_ok-index.ensures.counted c.in_ok-index.ensures.within)

-- src/expression.rt:306:40
pub path-returns-in_err-part : goal.path-returns-in_err-part
path-returns-in_err-part t c =
    let p = err_from_is_err_and c.from_residual-in_err-part.result c.from_residual-in_err-part.ensures.1 in
    rw (p.1, p.2) (path_fails c.args.tokens.now c.args.at c.args.depth c.args.before _ (part_row c.parts.rest.items) c.parts.place c.parts.count c.parts.invariant (search rules) c.in_err-part.field-0.0 c.in_err-part.ensures)

-- src/expression.rt:305:5
pub path-parts-preserved : goal.path-parts-preserved
path-parts-preserved t c =
    rw (c.in_ok-push.ensures.ok, part_more) (path_turns c.args.tokens.now c.args.at c.args.depth c.args.before _ (part_row c.parts.rest.items) c.parts.place c.parts.count c.parts.invariant (search rules) (view_next_part c.in_ok-part.part) c.in_ok-part.after c.in_ok-part.operators c.in_ok-part.ensures.settles c.in_ok-part.ensures.after c.in_ok-part.ensures.inside c.in_ok-part.ensures.counted c.in_ok-part.ensures.within)

-- src/expression.rt:282:1
pub path-returns : goal.path-returns
path-returns t c = record {
  settles = rw dotted_view (path_ends c.args.tokens.now c.args.at c.args.depth c.args.before _ (part_row c.parts.rest.items) c.parts.place c.parts.count c.parts.invariant (search rules));
  after = omega (arith, c.parts.invariant.after, c.parts.invariant.reached);
  inside = c.parts.invariant.inside;
  counted = dotted_counts (roll-PartNode (record { name = c.in_ok-name.name; index = c.in_ok-index.index })) c.parts.rest c.args.before c.parts.count c.parts.invariant.counted;
  within = c.parts.invariant.within;
}

-- src/expression.rt:228:40
pub primary-returns-in_err-expr : goal.primary-returns-in_err-expr
primary-returns-in_err-expr t c =
    let p = err_from_is_err_and c.from_residual-in_err-expr.result c.from_residual-in_err-expr.ensures.1 in
    rw (p.1, p.2) (group_inner_fails c.args.tokens.now c.args.at c.args.depth c.args.before (c.args.depth + 1) (omega arith) (search rules) (search rules) c.in_ok-left_parenthesis.left_parenthesis c.in_ok-left_parenthesis.ensures.reads.0 c.in_ok-left_parenthesis.ensures.reads.1 c.in_err-expr.field-0.0 c.in_err-expr.ensures)

-- src/expression.rt:230:13
pub primary-returns-in_err-right_parenthesis : goal.primary-returns-in_err-right_parenthesis
primary-returns-in_err-right_parenthesis t c =
    let p = err_from_is_err_and c.from_residual-in_err-right_parenthesis.result c.from_residual-in_err-right_parenthesis.ensures.1 in
    let fails = subst (λ (k : ℕ). Expects (mark_by kind.RightParenthesis (counted (c.args.depth + 1) k)) c.args.tokens.now c.in_ok-expr.after (Err c.in_err-right_parenthesis.field-0.0)) c.in_ok-expr.ensures.counted c.in_err-right_parenthesis.ensures.reads in
    rw (p.1, p.2) (group_close_fails c.args.tokens.now c.args.at c.args.depth c.args.before (c.args.depth + 1) (omega arith) (search rules) (search rules) c.in_ok-left_parenthesis.left_parenthesis c.in_ok-left_parenthesis.ensures.reads.0 c.in_ok-left_parenthesis.ensures.reads.1 (view_expr c.in_ok-expr.expr) c.in_ok-expr.after c.in_ok-expr.ensures.settles (omega (arith, c.in_ok-expr.ensures.after)) c.in_ok-expr.ensures.inside c.in_err-right_parenthesis.field-0.0 fails)

-- src/expression.rt:236:9
pub primary-returns-then-is : goal.primary-returns-then-is
primary-returns-then-is t c = record {
  settles =
      let closed = subst (λ (k : ℕ). run is_over (mark_by kind.RightParenthesis (counted (c.args.depth + 1) k)) (drop c.in_ok-expr.after c.args.tokens.now) ≡ Took c.in_ok-right_parenthesis.right_parenthesis (drop (c.in_ok-expr.after + 1) c.args.tokens.now)) c.in_ok-expr.ensures.counted c.in_ok-right_parenthesis.ensures.reads.0 in
      rw c.in_ok-boxed.ensures.ok (group_given c.args.tokens.now c.args.at c.args.depth c.args.before (c.args.depth + 1) (omega arith) (search rules) (search rules) c.in_ok-left_parenthesis.left_parenthesis c.in_ok-left_parenthesis.ensures.reads.0 c.in_ok-left_parenthesis.ensures.reads.1 (view_expr c.in_ok-expr.expr) c.in_ok-expr.after c.in_ok-expr.ensures.settles (omega (arith, c.in_ok-expr.ensures.after)) c.in_ok-expr.ensures.inside c.in_ok-right_parenthesis.right_parenthesis closed);
  after = omega (arith, c.in_ok-expr.ensures.after);
  inside = c.in_ok-right_parenthesis.ensures.reads.1;
  counted = rw c.in_ok-boxed.ensures.ok c.in_ok-expr.ensures.counted;
  within = c.in_ok-expr.ensures.within;
}

-- src/expression.rt:244:36
pub primary-returns-in_err-path : goal.primary-returns-in_err-path
primary-returns-in_err-path t c =
    let p = err_from_is_err_and c.from_residual-in_err-path.result c.from_residual-in_err-path.ensures.1 in
    rw (p.1, p.2) (path_part_fails c.args.tokens.now c.args.at c.args.depth c.args.before (search rules) (search rules) (search rules) (search rules) c.in_err-path.field-0.0 c.in_err-path.ensures)

-- src/expression.rt:205:1
pub primary-returns : goal.primary-returns
primary-returns t c = record {
  settles = path_part_given c.args.tokens.now c.args.at c.args.depth c.args.before (search rules) (search rules) (search rules) (search rules) (view_path c.in_ok-path.path) c.in_ok-path.after c.in_ok-path.ensures.settles;
  after = c.in_ok-path.ensures.after;
  inside = c.in_ok-path.ensures.inside;
  counted = c.in_ok-path.ensures.counted;
  within = c.in_ok-path.ensures.within;
}

-- src/expression.rt:165:35
pub range-returns-in_err-low : goal.range-returns-in_err-low
range-returns-in_err-low t c =
    let p = err_from_is_err_and c.from_residual.result c.from_residual.ensures.1 in
    rw (p.1, p.2) (range_low_fails c.args.tokens.now (c.args.at - 1) c.args.at c.args.depth c.args.before (omega (arith, c.requires.behind)) c.requires.inside c.in_err-low.field-0.0 c.in_err-low.ensures)

-- src/expression.rt:167:9
pub range-returns-then-not-is : goal.range-returns-then-not-is
range-returns-then-not-is t c = record {
  settles = single_given c.args.tokens.now (c.args.at - 1) c.args.at c.args.depth c.args.before (omega (arith, c.requires.behind)) c.requires.inside (view_expr c.in_ok-low.low) c.in_ok-low.after (search rules) c.in_ok-low.ensures.settles;
  after = c.in_ok-low.ensures.after;
  inside = c.in_ok-low.ensures.inside;
  counted = c.in_ok-low.ensures.counted;
  within = c.in_ok-low.ensures.within;
}

-- src/expression.rt:170:36
pub range-returns-in_err-high : goal.range-returns-in_err-high
range-returns-in_err-high t c =
    let p = err_from_is_err_and c.from_residual-in_err-high.result c.from_residual-in_err-high.ensures.1 in
    let fails = subst (λ (k : ℕ). FailsFrom (level_family 10 c.args.depth k) c.args.tokens.now (c.in_ok-low.after + 1) (c.in_ok-low.after + 1) c.in_err-high.field-0.0) c.in_ok-low.ensures.counted c.in_err-high.ensures in
    rw (p.1, p.2) (between_fails c.args.tokens.now (c.args.at - 1) c.args.at c.args.depth c.args.before (omega (arith, c.requires.behind)) c.requires.inside (view_expr c.in_ok-low.low) c.in_ok-low.after c.in_ok-low.ensures.settles (omega (arith, c.in_ok-low.ensures.after)) c.in_ok-dots.ensures.reads.1 (search rules) c.in_ok-dots.dots (search rules) c.in_err-high.field-0.0 fails)

-- src/expression.rt:152:1
pub range-returns : goal.range-returns
range-returns t c = record {
  settles =
      let given = subst (λ (k : ℕ). SettlesFrom (level_family 10 c.args.depth k) c.args.tokens.now (c.in_ok-low.after + 1) (c.in_ok-low.after + 1) (Took (view_expr c.in_ok-high.high) (drop c.in_ok-high.after c.args.tokens.now))) c.in_ok-low.ensures.counted c.in_ok-high.ensures.settles in
      between_given c.args.tokens.now (c.args.at - 1) c.args.at c.args.depth c.args.before (omega (arith, c.requires.behind)) c.requires.inside (view_expr c.in_ok-low.low) c.in_ok-low.after c.in_ok-low.ensures.settles (omega (arith, c.in_ok-low.ensures.after)) c.in_ok-dots.ensures.reads.1 (search rules) c.in_ok-dots.dots (search rules) (view_expr c.in_ok-high.high) c.in_ok-high.after given;
  after = omega (arith, c.in_ok-low.ensures.after, c.in_ok-high.ensures.after);
  inside = c.in_ok-high.ensures.inside;
  counted = omega (arith, c.in_ok-low.ensures.counted, c.in_ok-high.ensures.counted);
  within = c.in_ok-high.ensures.within;
}

-- src/expression.rt:136:37
pub ranges-returns-in_err-first : goal.ranges-returns-in_err-first
ranges-returns-in_err-first t c =
    let p = err_from_is_err_and c.from_residual.result c.from_residual.ensures.1 in
    rw (p.1, p.2) (first_range_fails c.args.tokens.now (c.args.at - 1) c.args.at c.args.depth c.args.before c.in_err-first.field-0.0 c.in_err-first.ensures)

-- src/expression.rt:141:5
pub ranges-more-init : goal.ranges-more-init
ranges-more-init t c = rw (c.in_ok-first-2.ensures.ok, c.new-rest.ensures.items) (ranges_begin c.args.tokens.now c.args.at c.args.depth c.args.before c.requires.behind (view_range c.in_ok-first.first) c.in_ok-first.after c.in_ok-first.operators c.in_ok-first.ensures.settles c.in_ok-first.ensures.after c.in_ok-first.ensures.inside c.in_ok-first.ensures.counted c.in_ok-first.ensures.within)

-- src/expression.rt:143:41
pub ranges-returns-in_err-range : goal.ranges-returns-in_err-range
ranges-returns-in_err-range t c =
    let p = err_from_is_err_and c.from_residual-in_err-range.result c.from_residual-in_err-range.ensures.1 in
    rw (p.1, p.2) (ranges_fail c.args.tokens.now c.args.at c.args.depth c.args.before c.requires.behind (view_range c.in_ok-first-2.first.value) (range_row c.more.rest.items) c.more.place c.more.count c.more.invariant (search rules) c.in_ok-comma.comma c.in_ok-comma.ensures.reads.0 (c.more.place + 1 - 1) (omega (arith, c.more.invariant.after, c.more.invariant.reached)) c.in_err-range.field-0.0 c.in_err-range.ensures)

-- src/expression.rt:141:5
pub ranges-more-preserved : goal.ranges-more-preserved
ranges-more-preserved t c =
    rw (c.in_ok-push.ensures.ok, range_more) (ranges_turn c.args.tokens.now c.args.at c.args.depth c.args.before c.requires.behind (view_range c.in_ok-first-2.first.value) (range_row c.more.rest.items) c.more.place c.more.count c.more.invariant (search rules) c.in_ok-comma.comma c.in_ok-comma.ensures.reads.0 (c.more.place + 1 - 1) (omega (arith, c.more.invariant.after, c.more.invariant.reached)) (view_range c.in_ok-range.range) c.in_ok-range.after c.in_ok-range.operators c.in_ok-range.ensures.settles c.in_ok-range.ensures.after c.in_ok-range.ensures.inside c.in_ok-range.ensures.counted c.in_ok-range.ensures.within)

-- src/expression.rt:123:1
pub ranges-returns : goal.ranges-returns
ranges-returns t c = record {
  settles = rw ranges_view (ranges_end c.args.tokens.now c.args.at c.args.depth c.args.before c.requires.behind (view_range c.in_ok-first-2.first.value) (range_row c.more.rest.items) c.more.place c.more.count c.more.invariant (search rules));
  after = omega (arith, c.more.invariant.after, c.more.invariant.reached);
  inside = c.more.invariant.inside;
  counted = rw ranges_view (omega (arith, c.more.invariant.counted));
  within = c.more.invariant.within;
}

-- src/expression.rt:189:40
pub unary-returns-in_err-part : goal.unary-returns-in_err-part
unary-returns-in_err-part t c =
    let p = err_from_is_err_and c.from_residual.result c.from_residual.ensures.1 in
    rw (p.1, p.2) (plain_fails c.args.tokens.now c.args.at c.args.depth c.args.before c.in_err-part.field-0.0 (search rules) c.in_err-part.ensures)

-- src/expression.rt:190:9
pub unary-returns-in_default : goal.unary-returns-in_default
unary-returns-in_default t c = record {
  settles = plain_given c.args.tokens.now c.args.at c.args.depth c.args.before (view_primary c.in_ok-part.part) c.in_ok-part.after (search rules) c.in_ok-part.ensures.settles;
  after = c.in_ok-part.ensures.after;
  inside = c.in_ok-part.ensures.inside;
  counted = c.in_ok-part.ensures.counted;
  within = c.in_ok-part.ensures.within;
}

-- src/expression.rt:193:9
pub unary-returns-then-is_over : goal.unary-returns-then-is_over
unary-returns-then-is_over t c = prefix_deep c.args.tokens.now c.args.at c.args.depth c.args.before (c.args.depth + 1) (c.args.before + 1) (omega arith) (omega arith) c.in-Some.operator (search rules) (search rules)

-- src/expression.rt:195:39
pub unary-unary-requires : goal.unary-unary-requires
unary-unary-requires t c = let w = prefix_inside c.args.tokens.now c.args.at c.in-Some.operator (search rules) in search (rules, arith, w)

-- src/expression.rt:195:39
pub unary-returns-in_err-operand : goal.unary-returns-in_err-operand
unary-returns-in_err-operand t c =
    let p = err_from_is_err_and c.from_residual-in_err-operand.result c.from_residual-in_err-operand.ensures.1 in
    rw (p.1, p.2) (prefix_fails c.args.tokens.now c.args.at c.args.depth c.args.before (c.args.depth + 1) (c.args.before + 1) (omega arith) (omega arith) c.in-Some.operator (search rules) (search rules) c.in_err-operand.field-0.0 c.in_err-operand.ensures)

-- src/expression.rt:175:1
pub unary-returns : goal.unary-returns
unary-returns t c = record {
  settles = rw c.in_ok-boxed.ensures.ok (prefix_given c.args.tokens.now c.args.at c.args.depth c.args.before (c.args.depth + 1) (c.args.before + 1) (omega arith) (omega arith) c.in-Some.operator (search rules) (search rules) (view_unary c.in_ok-operand.operand) c.in_ok-operand.after _ c.in_ok-operand.ensures.settles);
  after = omega (arith, c.in_ok-operand.ensures.after);
  inside = c.in_ok-operand.ensures.inside;
  counted = rw c.in_ok-boxed.ensures.ok (omega (arith, c.in_ok-operand.ensures.counted));
  within = c.in_ok-operand.ensures.within;
}
