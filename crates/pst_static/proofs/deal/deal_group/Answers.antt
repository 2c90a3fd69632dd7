use Rattle.std.proofs.Common.{◌+◌, ◌<◌, ◌∙◌, ℕ, List, Bool, length, get_or, length-set, get_or-set_same, get_or-set_other, ap, true, false, sym, arith}
use Rattle.pst_book.proofs.Starting.{members_begin, places_next, places_end}
use Rattle.pst_static.proofs.Dealt.{sharing_first, some_free, sharing_more, sharing_last, load_le}
use Rattle.pst_static.proofs.deal.deal_group.Goals as goal

pub members-init : goal.members-init
members-init c = record {
  here = λ l. c.requires.number;
  sharing = sharing_first c.args.plan.now (length c.args.used.now) c.args.group c.args.dealt.now.items c.args.loads.now c.clear.new.used
      (members_begin c.args.plan.now.groups c.args.group c.len-count.ensures.numbered c.requires.group_in) c.clear.ensures.many c.clear.ensures.none c.requires.loads;
}

pub first_free-lane-requires : goal.first_free-lane-requires
first_free-lane-requires c = let s = c.members.invariant.sharing in record { many = s.loads_are.many ∙ sym s.many_used }

pub lend-requires-clause-lane_in : goal.lend-requires-clause-lane_in
lend-requires-clause-lane_in c =
    let p = c.args.plan.now in
    let act = c.members.act in
    let t = c.members-test.true in
    let n = c.len-count.ensures.is in
    let l : act < length p.groups = omega (arith, t, n) in
    let i = c.members.invariant in
    let next = get_or c.args.next.now act 0 in
    let k = some_free p (length c.args.used.now) c.args.group act c.args.dealt.now.items c.members.dealt.items c.members.loads c.members.used i.sharing next
    (places_next p.groups act next c.args.group l (i.here l) (c.requires.next.each act l)) c.first_free-lane.result c.requires.wide c.first_free-lane.ensures.first in
    let m = i.sharing.many_used in
    omega (arith, k, m)

pub lend-requires-clause-many : goal.lend-requires-clause-many
lend-requires-clause-many c = let s = c.members.invariant.sharing in s.loads_are.many ∙ sym s.many_used

pub lend-requires-clause-room : goal.lend-requires-clause-room
lend-requires-clause-room c =
    let p = c.args.plan.now in
    let act = c.members.act in
    let t = c.members-test.true in
    let n = c.len-count.ensures.is in
    let l : act < length p.groups = omega (arith, t, n) in
    let i = c.members.invariant in
    let next = get_or c.args.next.now act 0 in
    let lane = c.first_free-lane.result in
    let v = c.members.dealt in
    let k = some_free p (length c.args.used.now) c.args.group act c.args.dealt.now.items v.items c.members.loads c.members.used i.sharing next
    (places_next p.groups act next c.args.group l (i.here l) (c.requires.next.each act l)) lane c.requires.wide c.first_free-lane.ensures.first in
    let e = i.sharing.loads_are.each lane k in
    let b = load_le v.items lane in
    let o = v.ok.0 in
    let q = v.ok.1 in
    let s = v.small in
    omega (arith, e, b, o, q, s)

pub members-preserved : goal.members-preserved
members-preserved c =
    let p = c.args.plan.now in
    let lanes = length c.args.used.now in
    let act = c.members.act in
    let t = c.members-test.true in
    let n = c.len-count.ensures.is in
    let l : act < length p.groups = omega (arith, t, n) in
    let i = c.members.invariant in
    let s = i.sharing in
    let next = get_or c.args.next.now act 0 in
    let nx = c.requires.next.each act l in
    let lane = c.first_free-lane.result in
    let loads = c.members.loads in
    let used = c.members.used in
    let step = places_next p.groups act next c.args.group l (i.here l) nx in
    let low = some_free p lanes c.args.group act c.args.dealt.now.items c.members.dealt.items loads used s next step lane c.requires.wide c.first_free-lane.ensures.first in
    let m = s.many_used in
    let k = s.loads_are.many in
    record {
      here = λ o. nx.same o ∙ i.here l;
      sharing = sharing_more p lanes c.args.group act c.args.dealt.now.items c.members.dealt.items loads used s next step lane low c.first_free-lane.ensures.first
          c.push.new.self.items c.lend.new.loads c.lend.new.used c.in_ok-push.ensures.items
          (ap (λ (v : List ℕ). length v) c.lend.ensures.loads ∙ length-set loads lane (get_or loads lane 0 + 1))
          (ap (λ (v : List ℕ). get_or v lane 0) c.lend.ensures.loads ∙ get_or-set_same loads lane (get_or loads lane 0 + 1) 0 (omega (arith, low, k)))
          (λ o d. ap (λ (v : List ℕ). get_or v o 0) c.lend.ensures.loads ∙ get_or-set_other loads lane o (get_or loads lane 0 + 1) 0 d)
          (ap (λ (v : List Bool). length v) c.lend.ensures.used ∙ length-set used lane true)
          (ap (λ (v : List Bool). get_or v lane false) c.lend.ensures.used ∙ get_or-set_same used lane true false (omega (arith, low, m)))
          (λ o d. ap (λ (v : List Bool). get_or v o false) c.lend.ensures.used ∙ get_or-set_other used lane o true false d);
    }

pub returns-clause-loads : goal.returns-clause-loads
returns-clause-loads c = c.members.invariant.sharing.loads_are

pub returns-clause-dealt : goal.returns-clause-dealt
returns-clause-dealt c =
    let p = c.args.plan.now in
    let past = c.members-test.false in
    let n = c.len-count.ensures.is in
    sharing_last p (length c.args.used.now) c.args.group c.members.act c.args.dealt.now.items c.members.dealt.items c.members.loads c.members.used
    (places_end p.groups c.members.act c.args.group (omega (arith, past, n))) c.members.invariant.sharing
