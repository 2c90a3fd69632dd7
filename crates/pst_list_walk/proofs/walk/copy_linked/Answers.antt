use Rattle.std.proofs.Common.{◌≡◌, ◌∙◌, sym, subst}
use Rattle.pst_shape.specs.Walks.{IfRead}
use Rattle.pst_link_walk.specs.Walks.{answer as link_answer}
use Rattle.pst_list_walk.proofs.Refusing.{made_copy}
use Rattle.pst_list_walk.proofs.walk.copy_linked.Goals as goal

pub returns : goal.returns
returns c =
    let a = link_answer c.args.links.now in
    made_copy a c.args.level c.from_vec.result c.nodes.result.now c.from_vec-2.result c.empty.result (c.from_vec.ensures ∙ c.in_ok-nodes.ensures) c.empty.ensures c.nodes.ensures
    (subst (λ xs. IfRead a (λ t. xs ≡ t.actions)) (sym c.from_vec-2.ensures) c.in_ok-acts.ensures)
