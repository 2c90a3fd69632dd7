use Rattle.std.proofs.Common.{sym, subst}
use Rattle.pst_model.specs.ModelView.{view_model}
use Rattle.pst_model.specs.Sound.{IsSound}
use Rattle.pst_list_walk.proofs.Refusing.{earlier_of}
use Rattle.pst_search.specs.Judging.{TellsLegal}
use Rattle.pst_search.proofs.Looks.{known_plan, whole_read, whole_built, whole_refused, whole_sought}
use Rattle.pst_search.proofs.whole.judge_at.Goals as goal

pub judge-requires-clause-sound : goal.judge-requires-clause-sound
judge-requires-clause-sound c = subst (λ m. IsSound (view_model m)) (sym c.model.ensures) c.requires.sound

pub judge-requires-clause-earlier : goal.judge-requires-clause-earlier
judge-requires-clause-earlier c =
    let k = c.args.lists.now in
    earlier_of c.nodes_stand_for_pieces.ensures.pieces k c.in-Some.scenario.now (whole_read k c.requires.whole) c.in-Some.ensures.read

pub judge-requires-clause-built : goal.judge-requires-clause-built
judge-requires-clause-built c = whole_built c.args.lists.now c.whole_readings_are_built.ensures.built c.in-Some.scenario.now c.requires.whole c.in-Some.ensures.read

pub judge-requires-clause-known : goal.judge-requires-clause-known
judge-requires-clause-known c =
    λ on. known_plan c.args.lists.now c.args.plan.now c.is_some-known.result c.in-Some.scenario.now c.requires.whole c.in-Some.ensures.read c.requires.planned c.is_some-known.ensures on

pub closed-requires : goal.closed-requires
closed-requires c =
    let r = c.in-Some.scenario.now in
    whole_refused c.args.lists.now c.whole_lists_end.ensures c.legal_is_unrefused.ensures r c.in_ok-legal.legal c.requires.whole c.in-Some.ensures.read c.if-legal.false
    (subst (λ m. TellsLegal (view_model m) r c.in_ok-legal.legal) c.model.ensures c.in_ok-legal.ensures)

pub returns-then-legal : goal.returns-then-legal
returns-then-legal c =
    let r = c.in-Some.scenario.now in
    whole_sought c.args.lists.now c.planned_readings_are_legal.ensures c.requires.sound c.requires.concrete r c.in_ok-legal.legal c.requires.whole c.in-Some.ensures.read c.if-legal.true
    (subst (λ m. TellsLegal (view_model m) r c.in_ok-legal.legal) c.model.ensures c.in_ok-legal.ensures)
