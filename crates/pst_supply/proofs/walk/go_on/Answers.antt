use Rattle.std.proofs.Common.{sym, subst, ◌∙◌}
use Rattle.pst_model.specs.ModelView.{view_model}
use Rattle.pst_pool_sources.specs.Offers.{AreSources}
use Rattle.pst_open_ends.specs.Spots.{given_source}
use Rattle.pst_open_ends.specs.Changes.{ends_undone, undone}
use Rattle.pst_open_ends.specs.Turns.{AreNexts}
use Rattle.pst_open_ends.proofs.Nexts.{nexts_behind}
use Rattle.pst_free_ends.specs.Steps.{IsStep, NoneAhead, Follows, HasRoom}
use Rattle.pst_supply.proofs.Sources.{step_is}
use Rattle.pst_supply.proofs.walk.go_on.Goals as goal

pub look_behind-requires-clause-nexts : goal.look_behind-requires-clause-nexts
look_behind-requires-clause-nexts c =
    let new = c.supply.new.acts.items in
    subst (AreNexts c.args.nexts.now) (sym c.deref.ensures.value)
    (nexts_behind c.args.nexts.now c.in_ok-change.change new (subst (AreNexts c.args.nexts.now) c.in_ok-change.ensures.supplied.back c.requires.nexts))

pub look_behind-requires-clause-step : goal.look_behind-requires-clause-step
look_behind-requires-clause-step c =
    let change = c.in_ok-change.change in
    subst (IsStep c.args.need.now (given_source c.args.source) change) (sym c.deref.ensures.value)
    (step_is (view_model c.args.beyond.now.model.now) c.args.need.now (given_source c.args.source) change c.args.acts.now.items c.supply.new.acts.items c.in_ok-change.ensures.supplied c.requires.turn c.requires.ahead)

pub look_behind-requires-clause-known : goal.look_behind-requires-clause-known
look_behind-requires-clause-known c =
    let change = c.in_ok-change.change in
    subst (λ l. AreSources c.args.among.now (undone change l)) (sym c.deref.ensures.value)
    (subst (AreSources c.args.among.now) c.in_ok-change.ensures.supplied.back c.requires.among)

pub returns-in-Ok-clause-follows : goal.returns-in-Ok-clause-follows
returns-in-Ok-clause-follows c = subst (Follows c.in-Ok.taken c.in_ok-change.change) c.deref.ensures.value c.in-Ok.ensures.follows

pub returns-in-Ok-clause-has_room : goal.returns-in-Ok-clause-has_room
returns-in-Ok-clause-has_room c = subst (λ l. HasRoom c.look_behind.new.among (ends_undone c.in_ok-change.change.ends l)) c.deref.ensures.value c.in-Ok.ensures.has_room

pub returns-in-Ok-clause-ahead : goal.returns-in-Ok-clause-ahead
returns-in-Ok-clause-ahead c = subst NoneAhead c.deref.ensures.value c.in-Ok.ensures.ahead

pub returns-in-Ok-clause-among : goal.returns-in-Ok-clause-among
returns-in-Ok-clause-among c = subst (AreSources c.look_behind.new.among) c.deref.ensures.value c.in-Ok.ensures.ok

pub returns-in-Err-clause-ahead : goal.returns-in-Err-clause-ahead
returns-in-Err-clause-ahead c = subst NoneAhead (c.in_ok-change.ensures.supplied.back ∙ sym c.take_back.ensures) c.requires.ahead

pub returns-in-Err-clause-among : goal.returns-in-Err-clause-among
returns-in-Err-clause-among c =
    let among = c.look_behind.new.among in
    let change = c.in_ok-change.change in
    subst (AreSources among) (sym c.take_back.ensures) (subst (λ l. AreSources among (undone change l)) c.deref.ensures.value c.in-Err.ensures.err)
