use Rattle.pst_ast.specs.ConstraintView.{view_constraint_content}
use Rattle.pst_ast.specs.Limits.{counted}
use Rattle.pst_parse_decl.proofs.objects.constraint_declaration.Goals as goal
use Rattle.pst_parse_decl.specs.Families.{constraint_declaration_family, content_family}
use Rattle.pst_reading.proofs.Reaching.{begin, step, mark_step, ends, fails}
use Rattle.pst_token.specs.declared.kind.Kind.TheVariants as kind
use Rattle.std.proofs.Common.{arith, ◌+◌}
use Rattle.std.proofs.lemmas.Result.{err_from_is_err_and}

pub returns-in_err-content : goal.returns-in_err-content
returns-in_err-content c =
    let p = err_from_is_err_and c.from_residual-in_err-content.result c.from_residual-in_err-content.ensures.1 in
    let r1 = mark_step (constraint_declaration_family c.args.depth) c.args.tokens.now c.args.at c.args.at kind.Constraint (counted c.args.depth 0) _ c.args.at (c.args.at + 1) c.in_ok-constraint.constraint (omega arith) c.in_ok-constraint.ensures.reads.0 (begin (constraint_declaration_family c.args.depth) c.args.tokens.now c.args.at c.args.at) in
    rw (p.1, p.2) (fails (constraint_declaration_family c.args.depth) c.args.tokens.now c.args.at c.args.at (content_family c.args.depth) _ (c.args.at + 1) (c.args.at + 1) c.in_err-content.field-0.0 (omega arith) c.in_err-content.ensures r1)

pub returns : goal.returns
returns c =
    let r1 = mark_step (constraint_declaration_family c.args.depth) c.args.tokens.now c.args.at c.args.at kind.Constraint (counted c.args.depth 0) _ c.args.at (c.args.at + 1) c.in_ok-constraint.constraint (omega arith) c.in_ok-constraint.ensures.reads.0 (begin (constraint_declaration_family c.args.depth) c.args.tokens.now c.args.at c.args.at) in
    let r2 = step (constraint_declaration_family c.args.depth) c.args.tokens.now c.args.at c.args.at (content_family c.args.depth) _ (c.args.at + 1) (c.args.at + 1) c.in_ok-content.after_content (view_constraint_content c.in_ok-content.content) (omega arith) (omega (arith, c.in_ok-content.ensures.after)) c.in_ok-content.ensures.settles r1 in
    record { settles = ends (constraint_declaration_family c.args.depth) c.args.tokens.now c.args.at c.args.at _ c.in_ok-content.after_content r2; after = omega (arith, c.in_ok-content.ensures.after); inside = c.in_ok-content.ensures.inside }
