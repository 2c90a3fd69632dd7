use Rattle.std.proofs.Common.{◌<◌, ◌∙◌, length, get_or, arith}
use Rattle.std.specs.Prelude.{nat_lt}
use Rattle.std.proofs.lemmas.Bool.{lt-ltb, le-ltb}
use Rattle.pst_static.proofs.Beginning.{beginning_first, beginning_more, beginning_last, some_room}
use Rattle.pst_static.proofs.standing.start_members.Goals as goal

pub members-init : goal.members-init
members-init c =
    record {
      here = λ l. c.requires.number;
      beginning = beginning_first c.args.plan.now c.args.programs.now c.args.places.now c.args.group c.args.trace.now.items _ c.args.started.now.items c.len-count.ensures.numbered c.requires.group_in c.requires.room;
      capacity = omega arith;
    }

pub lane_of-lane-requires-clause-there : goal.lane_of-lane-requires-clause-there
lane_of-lane-requires-clause-there c =
    let t = c.members-test.true in
    let n = c.len-count.ensures.is in
    let l : c.members.act < length c.args.plan.now.groups = omega (arith, t, n) in
    let r = c.requires.ready c.members.act l (c.members.invariant.here l) in
    (r.lane, r.at)

pub note-requires : goal.note-requires
note-requires c =
    let p = c.args.plan.now in
    let act = c.members.act in
    let t = c.members-test.true in
    let n = c.len-count.ensures.is in
    let l : act < length p.groups = omega (arith, t, n) in
    let i = c.members.invariant in
    some_room p c.args.programs.now c.args.places.now c.args.group act (get_or c.args.next.now act 0) c.args.trace.now.items c.members.trace.items _ c.args.started.now.items c.members.started.items i.beginning l (i.here l) (c.requires.next.each act l)

pub members-preserved : goal.members-preserved
members-preserved c =
    let p = c.args.plan.now in
    let act = c.members.act in
    let t = c.members-test.true in
    let count = c.len-count.result in
    let n = c.len-count.ensures.is in
    let l : act < length p.groups = omega (arith, t, n) in
    let i = c.members.invariant in
    let next = get_or c.args.next.now act 0 in
    let nx = c.requires.next.each act l in
    let many = i.beginning.many in
    let all = c.requires.many_started in
    let up = c.note.ensures.capacity in
    let before = i.capacity in
    record {
      here = λ m. nx.same m ∙ i.here l;
      beginning = beginning_more p c.args.programs.now c.args.places.now c.args.group act next c.args.trace.now.items c.members.trace.items _ c.args.started.now.items c.members.started.items i.beginning l (i.here l) nx
          c.lane_of-lane.result (nat_lt next count) c.note.new.trace.items _ (λ m. lt-ltb next count (omega (arith, m, n))) (λ m. le-ltb next count (omega (arith, m, n))) c.lane_of-lane.ensures c.note.ensures.items up (omega (arith, l, many, all));
      capacity = omega (arith, up, before);
    }

pub returns : goal.returns
returns c =
    let past = c.members-test.false in
    let n = c.len-count.ensures.is in
    let i = c.members.invariant in
    let r = beginning_last c.args.plan.now c.args.programs.now c.args.places.now c.args.group c.members.act c.args.trace.now.items c.members.trace.items _ c.args.started.now.items c.members.started.items (omega (arith, past, n)) i.beginning in
    record { many = i.beginning.many; started = r.1; begun = r.0; capacity = i.capacity }
