use Rattle.std.proofs.Common.{List, subst, take, arith}
use Rattle.std.proofs.lemmas.Bool.{OnTrue_at}
use Rattle.pst_scen.specs.declared.event.Event.{Event}
use Rattle.pst_by_rule.specs.Counted.{AreCounted}
use Rattle.pst_by_rule.proofs.Onward.{whole_onward}
use Rattle.pst_by_rule.proofs.Going.{followed_none, one_block_at, rest_at, trace_at, inside_at, some_at, followed_more}
use Rattle.pst_by_rule.proofs.following.follow_counted.Goals as goal

pub followed-init : goal.followed-init
followed-init c = record {
  counted = c.requires.counted;
  followed = λ s plan. followed_none s c.args.events.now c.requires.blocks;
  rest = whole_onward c.args.events.now c.requires.blocks;
  few = omega arith;
  inside = omega arith;
}

pub follow_block-requires-clause-some : goal.follow_block-requires-clause-some
follow_block-requires-clause-some c =
    some_at c.args.events.now c.followed.first c.first_block-count.result c.behind-rest.result.now c.front-part.result.now c.behind-rest.ensures c.front-part.ensures c.first_block-count.ensures

pub follow_block-requires-clause-one : goal.follow_block-requires-clause-one
follow_block-requires-clause-one c =
    one_block_at c.args.events.now c.followed.first c.first_block-count.result c.behind-rest.result.now c.front-part.result.now c.behind-rest.ensures c.front-part.ensures c.first_block-count.ensures

pub follow_block-requires-clause-counted : goal.follow_block-requires-clause-counted
follow_block-requires-clause-counted c = (take c.followed.first c.args.events.now, c.followed.invariant.counted)

pub followed-preserved : goal.followed-preserved
followed-preserved c =
    let es = c.args.events.now in
    let first = c.followed.first in
    let count = c.first_block-count.result in
    let rest = c.behind-rest.result.now in
    let part = c.front-part.result.now in
    let r = c.behind-rest.ensures in
    let q = c.front-part.ensures in
    let f = c.first_block-count.ensures in
    let v = c.followed.invariant in
    let did = OnTrue_at c.if-not-follow_block.false (c.follow_block.ensures (take first es) v.counted) in
    let some = f.some in
    record {
      counted = subst (λ (t : List Event). AreCounted c.args.plan.now t c.follow_block.new.started c.follow_block.new.ended c.follow_block.new.awaited c.follow_block.new.in_the_way c.args.next.now c.follow_block.new.holders)
          (trace_at es first count rest part r q f) did.1;
      followed = λ s plan. followed_more es first count rest part r q f s c.followed.blocks (v.followed s plan) (did.0 s plan);
      rest = rest_at es first count rest part r q f;
      few = let n = v.few in omega (arith, n, some);
      inside = inside_at es first count rest part r q f v.inside;
    }
