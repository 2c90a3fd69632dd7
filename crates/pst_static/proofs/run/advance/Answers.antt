use Rattle.std.proofs.Common.{◌≡◌, ◌+◌, ◌∙◌, ap, get_or, set}
use Rattle.std.proofs.lemmas.List.{get_or_read}
use Rattle.pst_static.proofs.Moved.{moved_set}
use Rattle.pst_static.proofs.run.advance.Goals as goal

pub returns : goal.returns
returns c =
    let places = c.args.places.now.items in
    let lane = c.args.lane in
    let e : c.index_mut.result.now ≡ get_or places lane 0 = get_or_read places lane c.index_mut.result.now c.requires.lane_in c.index_mut.ensures.value 0 in
    ap (λ v. set places lane (v + 1)) e ∙ moved_set places lane c.requires.lane_in
