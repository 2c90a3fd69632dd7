use Rattle.std.proofs.Common.{◌≡◌, subst}
use Rattle.std.specs.Prelude.{IfSome}
use Rattle.pst_model.specs.ModelView.{view_model}
use Rattle.pst_shape.specs.Walks.{IfRead}
use Rattle.pst_list_walk.specs.Walks.{answer}
use Rattle.pst_order_ahead.specs.LaidOut.{ReadsTree}
use Rattle.pst_search.proofs.Looks.{needs_barren}
use Rattle.pst_search.proofs.looking.need_refuses.Goals as goal

pub returns-in-Some : goal.returns-in-Some
returns-in-Some c =
    let k = c.args.lists.now in
    λ on. needs_barren k c.unserved_needs_refuse_lists.ensures c.requires.read (subst (λ o. IfSome o (λ t. ReadsTree (view_model k.model) k.root k.seed k.level k.choices)) c.in-Some.is c.requires.tree) c.in-Some.scenario
    (subst (λ o. IfSome o (λ t. IfRead (answer k) (λ s. t ≡ s))) c.in-Some.is c.requires.linking) (c.has_unserved_need.ensures.0 on)
