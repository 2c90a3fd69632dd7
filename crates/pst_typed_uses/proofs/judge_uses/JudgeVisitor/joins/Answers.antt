use Rattle.std.proofs.Common.{refl}
use Rattle.pst_ast.specs.SharedView.{view_names}
use Rattle.pst_ast.specs.Uses.{labels_in}
use Rattle.pst_walk_parts.specs.Shown.{view_statements}
use Rattle.pst_walk_paths.proofs.Others.{joins_stay}
use Rattle.pst_typed_uses.specs.Judged.{judged}
use Rattle.pst_typed_uses.proofs.judge_uses.JudgeVisitor.joins.Goals as goal

pub returns : goal.returns
returns c = joins_stay judged (labels_in (view_statements c.args._statements.now)) (λ s n. refl) c.args.self.now (view_names c.args._names.now)
