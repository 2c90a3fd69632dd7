use Rattle.std.proofs.Common.{◌∙◌, ap, ℕ, List, ◌∷◌}
use Rattle.std.specs.Prelude.{map}
use Rattle.pst_ast.specs.ActivityTree.{ArmLabelTree}
use Rattle.pst_ast.specs.ActivityView.{view_arm}
use Rattle.pst_ast.specs.declared.scope_declaration.Declaration.{Declaration}
use Rattle.pst_ast.specs.Uses.{arm_label}
use Rattle.pst_evaluate.specs.Kept.{Kept, known_in}
use Rattle.pst_range_rules.specs.Found.{arms_found}
use Rattle.pst_typed_uses.specs.Judged.{with_found}
use Rattle.pst_typed_uses.proofs.judge_uses.JudgeVisitor.arms.Goals as goal

pub returns : goal.returns
returns c =
    let labels : List ArmLabelTree = arm_label (view_arm c.args.first.now) ∷ map (λ a. arm_label (view_arm a)) c.args.rest.now in
    c.note.ensures
    ∙ ap (with_found c.args.self.now) (c.in_ok-finding.ensures
    ∙ ap (λ (ds : List Declaration). arms_found ds c.ranges-2.result.names.now (known_in c.ranges-2.result.enums.now.items) c.args.at.now labels) c.ranges-2.ensures.index
    ∙ ap (λ (names : List (List ℕ)). arms_found c.args.self.now.ds names (known_in c.ranges-2.result.enums.now.items) c.args.at.now labels) c.ranges-2.ensures.names
    ∙ ap (λ (items : Kept). arms_found c.args.self.now.ds c.args.self.now.names (known_in items) c.args.at.now labels) c.ranges-2.ensures.items)
