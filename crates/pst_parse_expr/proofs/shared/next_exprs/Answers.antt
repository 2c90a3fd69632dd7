use Rattle.std.proofs.Common.{arith, rules, ◌-◌}
use Rattle.std.specs.Prelude.{map}
use Rattle.std.proofs.lemmas.List.{map-append}
use Rattle.std.proofs.lemmas.Result.{err_from_is_err_and}
use Rattle.pst_token.specs.declared.kind.Kind.TheVariants as kind
use Rattle.pst_ast.specs.SharedView.{view_next_expr}
use Rattle.pst_reading.proofs.Giving.{later, later_fault}
use Rattle.pst_reading.proofs.Lists.{list_begins, list_turns, list_fails, list_ends}
use Rattle.pst_parse_expr.specs.Constraints.{is_at}
use Rattle.pst_parse_expr.specs.ConstraintFamilies.{next_expr_family}
use Rattle.pst_parse_expr.proofs.shared.next_exprs.Goals as goal

pub exprs-init : goal.exprs-init
exprs-init c = rw c.new-exprs.ensures.items (list_begins (is_at kind.Comma) (next_expr_family c.args.depth) c.args.tokens.now (c.args.at - 1) c.args.at (omega (arith, c.requires.behind)) c.requires.inside)

pub returns-in_err-expr : goal.returns-in_err-expr
returns-in_err-expr c =
    let p = err_from_is_err_and c.from_residual.result c.from_residual.ensures.1 in
    let l = c.exprs.invariant in
    rw (p.1, p.2) (list_fails (is_at kind.Comma) (next_expr_family c.args.depth) c.args.tokens.now (c.args.at - 1) c.args.at (map view_next_expr c.exprs.exprs.items) c.exprs.place l (search rules) c.in_err-expr.field-0.0 (later_fault c.args.tokens.now (c.args.at - 1) (next_expr_family c.args.depth) c.exprs.place c.in_err-expr.field-0.0 (omega (arith, l.reached)) c.in_err-expr.ensures))

pub exprs-preserved : goal.exprs-preserved
exprs-preserved c =
    let l = c.exprs.invariant in
    let h = c.in_ok-expr.ensures in
    rw (c.in_ok-push.ensures.ok, map-append) (list_turns (is_at kind.Comma) (next_expr_family c.args.depth) c.args.tokens.now (c.args.at - 1) c.args.at (map view_next_expr c.exprs.exprs.items) c.exprs.place l (search rules) (view_next_expr c.in_ok-expr.expr) c.in_ok-expr.after (later c.args.tokens.now (c.args.at - 1) (next_expr_family c.args.depth) c.exprs.place _ (omega (arith, l.reached)) h.settles) (omega (arith, h.after)) h.inside)

pub returns : goal.returns
returns c =
    let l = c.exprs.invariant in
    record {
      settles = list_ends (is_at kind.Comma) (next_expr_family c.args.depth) c.args.tokens.now (c.args.at - 1) c.args.at (map view_next_expr c.exprs.exprs.items) c.exprs.place l (search rules);
      after = omega (arith, l.reached);
      inside = l.inside;
    }
