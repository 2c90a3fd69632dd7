use Rattle.std.proofs.Common.{◌≡◌, refl, ap, ◌∙◌}
use Rattle.pst_ast.specs.ExpressionView.{view_expr}
use Rattle.pst_ast.specs.Uses.{expr_uses}
use Rattle.pst_walk_paths.specs.Shown.{by_paths}
use Rattle.pst_walk_paths.specs.declared.paths.Paths.{Paths}
use Rattle.pst_walk_paths.proofs.Others.{carried}
use Rattle.pst_walk_paths.proofs.paths.show_paths.Goals as goal

pub returns : goal.returns
returns g c =
    ap (λ (s : Paths g.row.V.Denot). s.visitor) c.in_ok-show_expr.ensures
    ∙ carried (λ (s : Paths g.row.V.Denot). s.visitor) (λ s u. record s { visitor = by_paths g.V.PathVisitor.path_step s.visitor u }) (by_paths g.V.PathVisitor.path_step) (λ s u. refl)
    (record { alloc = c.args.alloc; visitor = c.args.visitor }) (expr_uses c.args.at.now (view_expr c.args.expr.now))
