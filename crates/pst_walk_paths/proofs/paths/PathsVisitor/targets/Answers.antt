use Rattle.std.proofs.Common.{◌≡◌, refl}
use Rattle.pst_ast.specs.DeclarationView.{view_target}
use Rattle.pst_walk_paths.specs.Shown.{by_paths}
use Rattle.pst_walk_paths.proofs.Others.{target_stays}
use Rattle.pst_walk_paths.proofs.paths.PathsVisitor.targets.Goals as goal

pub returns : goal.returns
returns g c = target_stays (λ s u. record s { visitor = by_paths g.V.PathVisitor.path_step s.visitor u }) c.args._component c.args._pool (λ s i a r. refl) c.args.self.now (view_target c.args._target.now)
