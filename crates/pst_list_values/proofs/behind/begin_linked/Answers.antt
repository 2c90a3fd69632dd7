use Rattle.std.proofs.Common.{sym, subst}
use Rattle.std.specs.Prelude.{IfSome}
use Rattle.pst_model.specs.ModelView.{view_model}
use Rattle.pst_model.specs.Sound.{IsSound}
use Rattle.pst_built.specs.SoFar.{HasRead}
use Rattle.pst_plan_so_far.specs.Laws.{ReadsSources}
use Rattle.pst_list_walk.specs.Walks.{answer}
use Rattle.pst_list_walk.proofs.Refusing.{earlier_of}
use Rattle.pst_list_values.specs.Tied.{IsBegunOf}
use Rattle.pst_list_values.proofs.Ties.{tied_begun}
use Rattle.pst_list_values.proofs.OpenHere.{read_there, read_same}
use Rattle.pst_list_values.proofs.behind.begin_linked.Goals as goal

pub begin_values-requires-clause-sound : goal.begin_values-requires-clause-sound
begin_values-requires-clause-sound c = subst (λ m. IsSound (view_model m)) (sym c.model.ensures) c.requires.sound

pub begin_values-requires-clause-joins : goal.begin_values-requires-clause-joins
begin_values-requires-clause-joins c =
    let k = c.args.lists.now in
    c.links_join_pools.ensures (view_model k.model) k.root k.seed k.level k.choices c.in-Some.linked (subst (λ o. IfSome o (λ s. HasRead (answer k) s)) c.in-Some.is c.in_ok-linked.ensures.read)

pub begin_values-requires-clause-earlier : goal.begin_values-requires-clause-earlier
begin_values-requires-clause-earlier c =
    let k = c.args.lists.now in
    let has = subst (λ o. IfSome o (λ s. HasRead (answer k) s)) c.in-Some.is c.in_ok-linked.ensures.read in
    earlier_of c.nodes_stand_for_pieces.ensures.pieces k c.in-Some.linked (read_there k c.in-Some.linked has) (read_same k c.in-Some.linked has)

pub begin_values-requires-clause-built : goal.begin_values-requires-clause-built
begin_values-requires-clause-built c =
    let k = c.args.lists.now in
    (c.sources_are_built.ensures (view_model k.model) k.root k.seed k.level k.choices c.in-Some.linked
    (subst (λ o. IfSome o (λ s. ReadsSources (view_model k.model) k.root k.seed k.level k.choices)) c.in-Some.is c.in_ok-linked.ensures.sources)
    (subst (λ o. IfSome o (λ s. HasRead (answer k) s)) c.in-Some.is c.in_ok-linked.ensures.read)).0

pub returns : goal.returns
returns c =
    let k = c.args.lists.now in
    let b = c.in_ok-begun.begun in
    tied_begun k c.args.front c.in-Some.linked b c.in_ok-begun.ensures.front c.requires.front c.requires.all
    (subst (λ o. IfSome o (λ s. HasRead (answer k) s)) c.in-Some.is c.in_ok-linked.ensures.read)
    (subst (λ m. IsBegunOf (view_model m) c.in-Some.linked b.whole b.valued) c.model.ensures c.in_ok-begun.ensures.begun)
