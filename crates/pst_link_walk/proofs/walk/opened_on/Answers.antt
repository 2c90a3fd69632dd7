use Rattle.std.proofs.Common.{◌≡◌, ◌∙◌, ◌++◌, ℕ, List, ap, arith, drop, length, map, subst, sym}
use Rattle.std.proofs.lemmas.List.{drop-map}
use Rattle.pst_model.specs.ModelView.{view_model}
use Rattle.pst_scen.specs.declared.act.Act.{Act}
use Rattle.pst_open_ends.specs.Changes.{opened}
use Rattle.pst_sound_parts.proofs.Pairs.{tail_is}
use Rattle.pst_link_walk.proofs.walk.opened_on.Goals as goal

pub returns : goal.returns
returns c =
    let f = opened (view_model c.args.model.now) in
    let n = c.len-count.result in
    let many : n ≡ length c.args.kept.items = omega arith in
    subst (λ (k : ℕ). c.in_ok-acts.acts.items ≡ c.args.kept.items ++ drop k (map f c.args.leaves.now)) many
    (c.in_ok-acts.ensures ∙ ap (λ (more : List Act). c.args.kept.items ++ more) (c.in_ok-more.ensures ∙ ap (map f) (tail_is c.args.leaves.now n) ∙ sym (drop-map f n c.args.leaves.now)))
