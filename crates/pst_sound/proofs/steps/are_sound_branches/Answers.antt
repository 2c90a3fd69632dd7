use Rattle.std.proofs.Common.{rules, IsTrue, ◌↔◌, All}
use Rattle.pst_sound_parts.specs.Depth.{depth}
use Rattle.pst_model.specs.ModelView.{view_action, view_branch}
use Rattle.pst_model.specs.SoundActivity.{IsSoundBranch}
use Rattle.pst_sound_parts.proofs.Lists.{through_view}
use Rattle.pst_sound.proofs.steps.are_sound_branches.Goals as goal

pub returns : goal.returns
returns c =
    let items : IsTrue c.all.result ↔ All (λ b. IsSoundBranch (view_action c.args.action.now) (depth c.args.repeats.now) (view_branch b)) c.args.branches.now = search rules in
    through_view (IsSoundBranch (view_action c.args.action.now) (depth c.args.repeats.now)) view_branch c.args.branches.now c.all.result items
