use Rattle.std.proofs.Common.{◌<◌, ◌+◌, ◌≡◌, ◌∷◌, [], ℕ, List, length, ap, sym, subst, ◌∙◌, length-append, arith}
use Rattle.pst_tallies.specs.Tallies.{counts_in}
use Rattle.pst_static.proofs.Taken.{Follows, follows_first, members_fresh, fewer, follows_on, follows_last}
use Rattle.pst_static.proofs.order.take_all.Goals as goal

pub groups-init : goal.groups-init
groups-init c = record {
  follows = subst (λ (v : List ℕ). Follows c.args.plan.now v (counts_in (length c.args.plan.now.groups) c.args.awaited.now) c.args.taken.now) (sym c.new-order.ensures.items)
      (follows_first c.args.plan.now (counts_in (length c.args.plan.now.groups) c.args.awaited.now) c.args.taken.now c.requires.owed c.requires.none);
  hinted = c.first_group-group.ensures.hinted;
  first = c.first_group-group.ensures.first;
}

pub take_group-requires-clause-group_in : goal.take_group-requires-clause-group_in
take_group-requires-clause-group_in c = let t = c.groups-test.true in let n = c.len-count.ensures.is in omega (arith, t, n)

pub take_group-requires-clause-number : goal.take_group-requires-clause-number
take_group-requires-clause-number c = (c.groups.invariant.first.can (let t = c.groups-test.true in let n = c.len-count.ensures.is in omega (arith, t, n))).number

pub take_group-requires-clause-fresh : goal.take_group-requires-clause-fresh
take_group-requires-clause-fresh c =
    let i = c.groups.invariant in
    let t = c.groups-test.true in
    let n = c.len-count.ensures.is in
    let l : c.groups.group < length c.args.plan.now.groups = omega (arith, t, n) in
    members_fresh c.args.plan.now c.groups.order.items (counts_in (length c.args.plan.now.groups) c.groups.awaited) c.groups.taken i.follows c.groups.group l (i.first.can l)

pub groups-preserved : goal.groups-preserved
groups-preserved c =
    let i = c.groups.invariant in
    let t = c.groups-test.true in
    let n = c.len-count.ensures.is in
    let l : c.groups.group < length c.args.plan.now.groups = omega (arith, t, n) in
    let planned = c.requires.planned in
    record {
      follows = follows_on c.args.plan.now c.groups.order.items (counts_in (length c.args.plan.now.groups) c.groups.awaited) c.groups.taken i.follows planned.0 planned.1 c.must_keeps_groups.ensures c.groups.group (counts_in (length c.args.plan.now.groups) c.take_group.new.awaited) c.take_group.new.taken
          c.push.new.self.items c.in_ok-push.ensures.items l i.first c.take_group.ensures.owed c.take_group.ensures.taken;
      hinted = c.first_group-group-in-groups.ensures.hinted;
      first = c.first_group-group-in-groups.ensures.first;
    }

pub groups-smaller : goal.groups-smaller
groups-smaller c =
    let i = c.groups.invariant in
    let t = c.groups-test.true in
    let n = c.len-count.ensures.is in
    let l : c.groups.group < length c.args.plan.now.groups = omega (arith, t, n) in
    let f = fewer c.args.plan.now c.groups.order.items (counts_in (length c.args.plan.now.groups) c.groups.awaited) c.groups.taken i.follows c.groups.group l (i.first.can l) in
    let e : length c.push.new.self.items ≡ length c.groups.order.items + 1 = ap (λ (v : List ℕ). length v) c.in_ok-push.ensures.items ∙ length-append c.groups.order.items (c.groups.group ∷ []) in
    omega (arith, f, e)

pub returns : goal.returns
returns c =
    let i = c.groups.invariant in
    let past = c.groups-test.false in
    let n = c.len-count.ensures.is in
    let planned = c.requires.planned in
    follows_last c.args.plan.now c.groups.order.items (counts_in (length c.args.plan.now.groups) c.groups.awaited) c.groups.taken i.follows planned.0 planned.1 c.programs_are_safe.ensures.goes_on c.groups.group (omega (arith, past, n)) i.first
