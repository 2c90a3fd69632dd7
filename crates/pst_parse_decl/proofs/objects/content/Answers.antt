use Rattle.pst_ast.specs.ConstraintView.{view_constraint, view_constraint_content}
use Rattle.pst_parse_decl.proofs.Contents.{reaches_named, reaches_set, set_settles, set_fails}
use Rattle.pst_parse_decl.proofs.objects.content.Goals as goal
use Rattle.pst_parse_decl.specs.Families.{content_family, named_family, whole_set_family}
use Rattle.pst_reading.proofs.Reaching.{step, ends, fails, reads_on}
use Rattle.std.proofs.Common.{arith, rules, ◌+◌}
use Rattle.std.proofs.lemmas.Result.{err_from_is_err_and}

pub returns-then-is_named : goal.returns-then-is_named
returns-then-is_named c = reads_on (content_family c.args.depth) c.args.tokens.now c.args.at c.args.at view_constraint_content (named_family (c.args.depth + 1) c.args.depth) c.args.at 1 1 _ (omega arith) c.named_constraint.ensures (reaches_named c.args.depth c.args.tokens.now c.args.at (c.args.depth + 1) (omega arith) (search rules))

pub returns-in_err-set : goal.returns-in_err-set
returns-in_err-set c =
    let p = err_from_is_err_and c.from_residual.result c.from_residual.ensures.1 in
    rw (p.1, p.2) (fails (content_family c.args.depth) c.args.tokens.now c.args.at c.args.at (whole_set_family c.args.depth) _ c.args.at c.args.at c.in_err-set.field-0.0 (omega arith) (set_fails c.args.tokens.now c.args.at c.args.at c.args.depth c.in_err-set.field-0.0 c.in_err-set.ensures) (reaches_set c.args.depth c.args.tokens.now c.args.at c.requires.nesting (search rules)))

pub returns : goal.returns
returns c = record { settles = ends (content_family c.args.depth) c.args.tokens.now c.args.at c.args.at _ c.in_ok-set.after (step (content_family c.args.depth) c.args.tokens.now c.args.at c.args.at (whole_set_family c.args.depth) _ c.args.at c.args.at c.in_ok-set.after (view_constraint c.in_ok-set.set) (omega arith) (omega (arith, c.in_ok-set.ensures.after)) (set_settles c.args.tokens.now c.args.at c.args.at c.args.depth _ c.in_ok-set.ensures.settles) (reaches_set c.args.depth c.args.tokens.now c.args.at c.requires.nesting (search rules))); after = omega (arith, c.in_ok-set.ensures.after); inside = c.in_ok-set.ensures.inside }
