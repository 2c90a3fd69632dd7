use Rattle.std.proofs.Common.{◌∙◌, ap, sym, map}
use Rattle.std.proofs.lemmas.List.{drop-map}
use Rattle.pst_model.specs.ModelView.{view_model}
use Rattle.pst_open_ends.specs.Changes.{opened}
use Rattle.pst_sound_parts.proofs.Pairs.{tail_is}
use Rattle.pst_link_walk.proofs.walk.growth.Goals as goal

pub returns : goal.returns
returns c =
    let f = opened (view_model c.args.model.now) in
    (c.in-Some.size, c.in-Some.is, c.in_ok-acts.ensures ∙ ap (map f) (tail_is c.args.leaves.now c.in-Some.size) ∙ sym (drop-map f c.in-Some.size c.args.leaves.now))
