use Rattle.std.proofs.Common.{◌∙◌, ◌++◌, List, ap}
use Rattle.std.specs.Prelude.{slice_get}
use Rattle.pst_scen.specs.declared.act.Act.{Act}
use Rattle.pst_sound_parts.proofs.Pairs.{tail_is}
use Rattle.pst_link_walk.specs.News.{act_of, far_act}
use Rattle.pst_link_walk.proofs.walk.changed.Goals as goal

pub returns : goal.returns
returns c =
    let acts = c.args.acts.now in
    let change = c.args.change.now in
    c.in_ok-add_far.ensures
    ∙ ap (λ (found : List Act). found ++ far_act acts change.ends.far)
    (c.in_ok-add_act.ensures ∙ ap (λ (found : List Act). found ++ act_of (slice_get acts change.ends.need.act)) (c.in_ok-found.ensures ∙ tail_is acts change.count))
