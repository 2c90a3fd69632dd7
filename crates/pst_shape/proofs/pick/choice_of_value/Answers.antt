use Rattle.std.proofs.Common.{◌∙◌, ap, sym, subst}
use Rattle.pst_shape_parts.specs.Trees.{tree_of, taken_back, IsGrown, Extends}
use Rattle.pst_shape_steps.specs.Pending.{first_value}
use Rattle.pst_shape.proofs.Placed.{put_back}
use Rattle.pst_shape.proofs.pick.choice_of_value.Goals as goal

pub returns-in-Err-clause-err : goal.returns-in-Err-clause-err
returns-in-Err-clause-err c =
    let old = tree_of c.args.grown.now in
    let u = tree_of c.settle.new.grown in
    let node = c.args.fields.node in
    let v = first_value c.args.fields.fields.now c.args.option in
    c.take_back.ensures ∙ ap (λ t. taken_back t node) c.cut.ensures
    ∙ put_back old u node c.len-nodes.result c.len-leaves.result v c.requires.compound (subst (λ t. Extends t u) c.in_ok-at.ensures.put c.settle.ensures.grows)
    (sym (c.len-nodes.ensures ∙ c.args.grown.now.nodes.ok.0)) (sym (c.len-leaves.ensures ∙ c.args.grown.now.leaves.ok.0))

pub returns-in-Err-clause-grown : goal.returns-in-Err-clause-grown
returns-in-Err-clause-grown c =
    let old = tree_of c.args.grown.now in
    let u = tree_of c.settle.new.grown in
    let node = c.args.fields.node in
    let v = first_value c.args.fields.fields.now c.args.option in
    subst IsGrown (sym (c.take_back.ensures ∙ ap (λ t. taken_back t node) c.cut.ensures
    ∙ put_back old u node c.len-nodes.result c.len-leaves.result v c.requires.compound (subst (λ t. Extends t u) c.in_ok-at.ensures.put c.settle.ensures.grows)
    (sym (c.len-nodes.ensures ∙ c.args.grown.now.nodes.ok.0)) (sym (c.len-leaves.ensures ∙ c.args.grown.now.leaves.ok.0)))) c.requires.grown
