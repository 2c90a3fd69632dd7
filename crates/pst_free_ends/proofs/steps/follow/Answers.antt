use Rattle.std.proofs.Common.{◌≡◌, ◌∙◌, ap, subst, arith}
use Rattle.pst_pool_sources.specs.Offers.{AreSources}
use Rattle.pst_open_ends.specs.Spots.{read_spot, given_source}
use Rattle.pst_open_ends.specs.Changes.{ends_undone, undone}
use Rattle.pst_free_ends.specs.Steps.{linked_by, NoneAhead, Moved, Takes}
use Rattle.pst_free_ends.proofs.Rising.{kept_rise}
use Rattle.pst_free_ends.proofs.Grows.{mid_more, mid_begun, mid_ahead, mid_turn, mid_linked}
use Rattle.pst_free_ends.proofs.Leaves.{in_any_case, same_kept, grown, shrunk, with_room}
use Rattle.pst_free_ends.proofs.steps.follow.Goals as goal

pub grow-requires : goal.grow-requires
grow-requires c = c.requires.step.supplies.few

pub take_for-requires : goal.take_for-requires
take_for-requires c =
    let need = c.args.need.now in
    let source = given_source c.args.source in
    let change = c.args.change.now in
    let acts = c.args.acts.now in
    let step = c.requires.step in
    let mid = ends_undone change.ends acts in
    let start : AreSources c.grow.new.self mid = grown need source change acts step c.args.sources.now c.grow.new.self c.requires.known c.in_ok-grow.ensures.ok c.grow.ensures.begun in
    kept_rise c.grow.new.self mid start

pub returns-in_err-grow-clause-err : goal.returns-in_err-grow-clause-err
returns-in_err-grow-clause-err c =
    in_any_case (AreSources c.grow.new.self (undone c.args.change.now c.args.acts.now)) c.from_residual.result
    (same_kept c.args.sources.now c.grow.new.self (undone c.args.change.now c.args.acts.now) c.requires.known c.in_err-grow.ensures.err c.grow.ensures.begun)

pub returns-in-Ok-clause-sources : goal.returns-in-Ok-clause-sources
returns-in-Ok-clause-sources c =
    let need = c.args.need.now in
    let source = given_source c.args.source in
    let change = c.args.change.now in
    let acts = c.args.acts.now in
    let step = c.requires.step in
    let mid = ends_undone change.ends acts in
    let start : AreSources c.grow.new.self mid = grown need source change acts step c.args.sources.now c.grow.new.self c.requires.known c.in_ok-grow.ensures.ok c.grow.ensures.begun in
    let moved : Moved c.take_for.new.sources c.in-Ok.taken mid (linked_by (read_spot need) c.target.result mid) = c.in-Ok.ensures.ok mid start (mid_turn need source change acts step) (mid_ahead need source change acts step) in
    let same : linked_by (read_spot need) c.target.result mid ≡ acts = ap (λ t. linked_by (read_spot need) t mid) c.target.ensures ∙ mid_linked need source change acts step in
    subst (AreSources c.take_for.new.sources) same moved.are

pub returns-in-Ok-clause-follows : goal.returns-in-Ok-clause-follows
returns-in-Ok-clause-follows c =
    let need = c.args.need.now in
    let source = given_source c.args.source in
    let change = c.args.change.now in
    let acts = c.args.acts.now in
    let step = c.requires.step in
    let mid = ends_undone change.ends acts in
    let start : AreSources c.grow.new.self mid = grown need source change acts step c.args.sources.now c.grow.new.self c.requires.known c.in_ok-grow.ensures.ok c.grow.ensures.begun in
    let moved : Moved c.take_for.new.sources c.in-Ok.taken mid (linked_by (read_spot need) c.target.result mid) = c.in-Ok.ensures.ok mid start (mid_turn need source change acts step) (mid_ahead need source change acts step) in
    let same : linked_by (read_spot need) c.target.result mid ≡ acts = ap (λ t. linked_by (read_spot need) t mid) c.target.ensures ∙ mid_linked need source change acts step in
    record {
      takes = subst (Takes c.in-Ok.taken mid) same moved.takes;
      more = mid_more need source change acts step;
      begun = mid_begun need source change acts step;
      ahead = step.ahead;
    }

pub returns-in-Ok-clause-ahead : goal.returns-in-Ok-clause-ahead
returns-in-Ok-clause-ahead c =
    let need = c.args.need.now in
    let source = given_source c.args.source in
    let change = c.args.change.now in
    let acts = c.args.acts.now in
    let step = c.requires.step in
    let mid = ends_undone change.ends acts in
    let start : AreSources c.grow.new.self mid = grown need source change acts step c.args.sources.now c.grow.new.self c.requires.known c.in_ok-grow.ensures.ok c.grow.ensures.begun in
    let moved : Moved c.take_for.new.sources c.in-Ok.taken mid (linked_by (read_spot need) c.target.result mid) = c.in-Ok.ensures.ok mid start (mid_turn need source change acts step) (mid_ahead need source change acts step) in
    let same : linked_by (read_spot need) c.target.result mid ≡ acts = ap (λ t. linked_by (read_spot need) t mid) c.target.ensures ∙ mid_linked need source change acts step in
    subst NoneAhead same moved.ahead

pub returns-in-Ok-clause-has_room : goal.returns-in-Ok-clause-has_room
returns-in-Ok-clause-has_room c =
    let need = c.args.need.now in
    let source = given_source c.args.source in
    let change = c.args.change.now in
    let acts = c.args.acts.now in
    let step = c.requires.step in
    let mid = ends_undone change.ends acts in
    let start : AreSources c.grow.new.self mid = grown need source change acts step c.args.sources.now c.grow.new.self c.requires.known c.in_ok-grow.ensures.ok c.grow.ensures.begun in
    with_room c.grow.new.self c.take_for.new.sources mid start c.take_for.ensures.room

pub returns-in-Ok-clause-room : goal.returns-in-Ok-clause-room
returns-in-Ok-clause-room c = λ n p. omega (arith, c.grow.ensures.room n p, c.take_for.ensures.room n p)

pub returns-in-Err-clause-err : goal.returns-in-Err-clause-err
returns-in-Err-clause-err c =
    let need = c.args.need.now in
    let source = given_source c.args.source in
    let change = c.args.change.now in
    let acts = c.args.acts.now in
    let step = c.requires.step in
    let mid = ends_undone change.ends acts in
    let start : AreSources c.grow.new.self mid = grown need source change acts step c.args.sources.now c.grow.new.self c.requires.known c.in_ok-grow.ensures.ok c.grow.ensures.begun in
    shrunk change acts (mid_more need source change acts step) (mid_begun need source change acts step) c.take_for.new.sources c.shrink.new.self
    (same_kept c.grow.new.self c.take_for.new.sources mid start c.in-Err.ensures.err c.in-Err.ensures.begun) c.shrink.ensures.ends c.shrink.ensures.begun

pub returns-in-Err-clause-room : goal.returns-in-Err-clause-room
returns-in-Err-clause-room c = λ n p. omega (arith, c.grow.ensures.room n p, c.take_for.ensures.room n p, c.shrink.ensures.room n p)
