use Rattle.std.proofs.Common.{◌≡◌, OnOk, List, map, subst, ◌∙◌}
use Rattle.pst_ast.specs.ExpressionView.{view_next_part}
use Rattle.pst_walk_parts.specs.Shown.{dotted_part}
use Rattle.pst_ast.specs.declared.referent.PathPart.{PathPart}
use Rattle.pst_ast.specs.Uses.{Reads}
use Rattle.pst_names.specs.Judged.{judged}
use Rattle.pst_names.proofs.judge_uses.JudgeVisitor.reads.Goals as goal

pub returns : goal.returns
returns c =
    subst (λ (p : PathPart). OnOk c.judge_path.result (c.judge_path.new.self ≡ judged c.args.self.now (Reads c.args.at.now p (map (λ n. dotted_part (view_next_part n)) c.args.rest.now)))) c.part_of.ensures
    (subst (λ (ps : List PathPart). OnOk c.judge_path.result (c.judge_path.new.self ≡ judged c.args.self.now (Reads c.args.at.now c.part_of.result ps))) (c.as_slice.ensures.value ∙ c.in_ok-parts.ensures) c.judge_path.ensures)
