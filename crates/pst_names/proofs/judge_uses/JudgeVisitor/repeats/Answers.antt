use Rattle.std.proofs.Common.{◌≡◌, OnOk, List, subst, ◌∙◌}
use Rattle.pst_ast.specs.Uses.{plain_part}
use Rattle.pst_ast.specs.declared.referent.PathPart.{PathPart}
use Rattle.pst_ast.specs.Uses.{Repeats}
use Rattle.pst_names.specs.Judged.{judged}
use Rattle.pst_names.proofs.judge_uses.JudgeVisitor.repeats.Goals as goal

pub returns : goal.returns
returns c =
    subst (λ (ps : List PathPart). OnOk c.judge_path.result (c.judge_path.new.self ≡ judged c.args.self.now (Repeats c.args.at.now (plain_part c.args.first) ps))) (c.as_slice.ensures.value ∙ c.in_ok-parts.ensures) c.judge_path.ensures
