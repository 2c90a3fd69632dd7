use Rattle.std.proofs.Common.{rules, IsTrue, ◌↔◌, All}
use Rattle.pst_model.specs.ConstraintTree.{view_constraint}
use Rattle.pst_model.specs.SoundConstraint.{IsSoundConstraint}
use Rattle.pst_sound_parts.proofs.Lists.{through_view}
use Rattle.pst_sound_parts.proofs.site.are_sound_there.Goals as goal

pub returns : goal.returns
returns g c =
    let items : IsTrue c.all.result ↔ All (λ x. IsSoundConstraint (g.S.Site.means c.args.site.now) (view_constraint x)) c.args.constraints.now = search rules in
    through_view (IsSoundConstraint (g.S.Site.means c.args.site.now)) view_constraint c.args.constraints.now c.all.result items
