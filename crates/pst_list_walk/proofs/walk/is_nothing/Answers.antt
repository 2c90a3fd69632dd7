use Rattle.std.proofs.Common.{length, refl}
use Rattle.pst_model.specs.ModelView.{view_model}
use Rattle.pst_link_walk.specs.Walks.{answer as link_answer}
use Rattle.pst_list_walk.proofs.Going.{counted}
use Rattle.pst_list_walk.proofs.Free.{nothing_read}
use Rattle.pst_list_walk.proofs.walk.is_nothing.Goals as goal

pub returns : goal.returns
returns c = λ so.
    let links = c.args.links.now in
    let nodes = c.nodes-nodes.result.now in
    nothing_read (view_model links.model) (link_answer links) c.in-Some.size (length nodes) c.in-Some.ensures.1 (counted (link_answer links) nodes (length nodes) refl c.nodes-nodes.ensures) c.if-size-gt0.false c.if-nodes-gt0.false
