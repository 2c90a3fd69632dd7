use Rattle.std.proofs.Common.{◌∙◌, ap, length}
use Rattle.pst_rng.specs.Words.{start_of}
use Rattle.pst_list_walk.proofs.walk.ListWalk.start.Goals as goal

pub returns : goal.returns
returns c =
    let w = c.self.inside in
    c.start.ensures ∙ ap (λ p. start_of w.seed p c.args.count) c.in_ok-place.ensures ∙ ap (λ k. start_of k.seed (length c.args.self.now.choices) c.args.count) c.self.view_is
