use Rattle.std.proofs.Common.{◌≡◌, ◌∙◌, sym, ap, subst}
use Rattle.pst_shape.specs.Walks.{next_of, IfRead}
use Rattle.pst_link_walk.specs.Walks.{reading, AtEnd, answer as link_answer}
use Rattle.pst_list_walk.specs.Made.{linked_of}
use Rattle.pst_list_walk.proofs.Parts.{begins_whole, begins_none}
use Rattle.pst_list_walk.proofs.walk.begin.Goals as goal

pub returns-in_ok-values-in-Whole : goal.returns-in_ok-values-in-Whole
returns-in_ok-values-in-Whole c =
    let m = c.args.model.now in
    let s = c.in_ok-linked-in-Whole.linked in
    begins_whole m c.args.root c.args.seed c.args.level c.args.links.now.choices s c.in_ok-values-in-Whole.values c.in_ok-place-in-Whole.place (subst (λ k. AtEnd k (reading k)) c.requires c.ends.ensures)
    (sym (c.next.ensures ∙ ap (λ k. next_of (link_answer k)) c.requires) ∙ c.in-Whole.is)
    (subst (λ k. IfRead (link_answer k) (λ t. s ≡ linked_of c.args.level t)) c.requires c.in_ok-linked-in-Whole.ensures) c.in_ok-place-in-Whole.ensures c.in_ok-values-in-Whole.ensures

pub returns-in_default : goal.returns-in_default
returns-in_default c =
    let m = c.args.model.now in
    begins_none m c.args.root c.args.seed c.args.level c.args.links.now.choices (subst (λ k. AtEnd k (reading k)) c.requires c.ends.ensures)
    (λ e. c.in_default.not-Whole (c.next.ensures ∙ ap (λ k. next_of (link_answer k)) c.requires ∙ e))
