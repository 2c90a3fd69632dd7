use Rattle.std.proofs.Common.{◌≡◌, subst}
use Rattle.std.specs.Prelude.{IfSome}
use Rattle.std.proofs.lemmas.Result.{IfOk-weaker}
use Rattle.pst_model.specs.ModelView.{view_model}
use Rattle.pst_shape.specs.Walks.{IfRead}
use Rattle.pst_list_walk.specs.Walks.{answer}
use Rattle.pst_order_ahead.specs.LaidOut.{ReadsTree}
use Rattle.pst_search.proofs.Looks.{laid_at, order_barren}
use Rattle.pst_search.proofs.looking.order_refuses.Goals as goal

pub is_refused_ahead-requires : goal.is_refused_ahead-requires
is_refused_ahead-requires c =
    let k = c.args.lists.now in
    laid_at k c.trees_are_laid_out.ensures c.requires.read (subst (λ o. IfSome o (λ t. ReadsTree (view_model k.model) k.root k.seed k.level k.choices)) c.in-Some.is c.requires.tree) c.in-Some.scenario
    (subst (λ o. IfSome o (λ t. IfRead (answer k) (λ s. t ≡ s))) c.in-Some.is c.requires.linking)

pub returns-in-Some : goal.returns-in-Some
returns-in-Some c =
    let k = c.args.lists.now in
    IfOk-weaker c.is_refused_ahead.result _ _
    (λ r told on. order_barren k c.refusals_ahead_stay.ensures c.requires.read c.in-Some.scenario (subst (λ o. IfSome o (λ t. IfRead (answer k) (λ s. t ≡ s))) c.in-Some.is c.requires.linking) (told on))
    c.is_refused_ahead.ensures
