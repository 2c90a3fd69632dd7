use Rattle.std.proofs.Common.{◌≡◌, refl}
use Rattle.pst_ast.specs.SharedView.{view_names}
use Rattle.pst_ast.specs.Uses.{labels_in}
use Rattle.pst_walk_parts.specs.Shown.{view_statements}
use Rattle.pst_walk_paths.specs.Shown.{by_paths}
use Rattle.pst_walk_paths.proofs.Others.{joins_stay}
use Rattle.pst_walk_paths.proofs.paths.PathsVisitor.joins.Goals as goal

pub returns : goal.returns
returns g c = joins_stay (λ s u. record s { visitor = by_paths g.V.PathVisitor.path_step s.visitor u }) (labels_in (view_statements c.args._statements.now)) (λ s n. refl) c.args.self.now (view_names c.args._names.now)
