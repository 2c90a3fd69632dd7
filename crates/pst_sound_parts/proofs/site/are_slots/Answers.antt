use Rattle.std.proofs.Common.{rules, IsTrue, ◌↔◌, All}
use Rattle.pst_model.specs.ConstraintTree.{view_slot}
use Rattle.pst_sound_parts.proofs.Lists.{through_view}
use Rattle.pst_sound_parts.proofs.site.are_slots.Goals as goal

pub returns : goal.returns
returns g c =
    let items : IsTrue c.all.result ↔ All (λ s. g.S.Site.means c.args.site.now (view_slot s)) c.args.slots.now = search rules in
    through_view (g.S.Site.means c.args.site.now) view_slot c.args.slots.now c.all.result items
