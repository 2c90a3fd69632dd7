use Rattle.std.proofs.Common.{◌∙◌, [], length, get_or, take, take_all, refl, subst, sym, arith}
use Rattle.pst_programs.specs.Lanes.{Deals, Done}
use Rattle.pst_static.specs.Loads.{AreLoads, IsDealtOut}
use Rattle.pst_static.proofs.Dealt.{group_fits, deals_more, take_next}
use Rattle.pst_static.proofs.deal.deal_all.Goals as goal

pub loop-place-init : goal.loop-place-init
loop-place-init c = record {
  many = refl;
  loads = c.requires.loads;
  deals = subst (λ v. Deals c.args.plan.now (length c.args.used.now) [] [] v) (sym c.requires.none) (Done []);
}

pub deal_group-requires-clause-group_in : goal.deal_group-requires-clause-group_in
deal_group-requires-clause-group_in c = (c.requires.serial.each c.loop-place.place c.loop-place-test.true).is_open.below

pub deal_group-requires-clause-number : goal.deal_group-requires-clause-number
deal_group-requires-clause-number c = (c.requires.serial.each c.loop-place.place c.loop-place-test.true).is_open.number

pub deal_group-requires-clause-few : goal.deal_group-requires-clause-few
deal_group-requires-clause-few c = let m = c.loop-place.invariant.many in let f = c.requires.few in omega (arith, m, f)

pub deal_group-requires-clause-wide : goal.deal_group-requires-clause-wide
deal_group-requires-clause-wide c =
    let o = (c.requires.serial.each c.loop-place.place c.loop-place-test.true).is_open in
    let m = c.loop-place.invariant.many in
    let w = group_fits c.args.plan.now.groups (get_or c.args.order.now c.loop-place.place 0) (length c.args.used.now) o.below o.number c.requires.wide in
    omega (arith, m, w)

pub deal_group-requires-clause-loads : goal.deal_group-requires-clause-loads
deal_group-requires-clause-loads c = subst (λ k. AreLoads k c.loop-place.dealt.items c.loop-place.loads) (sym c.loop-place.invariant.many) c.loop-place.invariant.loads

pub loop-place-preserved : goal.loop-place-preserved
loop-place-preserved c =
    let i = c.loop-place.invariant in
    let order = c.args.order.now in
    let place = c.loop-place.place in
    let out = subst (λ k. IsDealtOut c.args.plan.now k (get_or order place 0) c.loop-place.dealt.items c.deal_group.new.dealt.items) i.many c.in_ok-deal_group.ensures.dealt in
    record {
      many = c.in_ok-deal_group.ensures.many ∙ i.many;
      loads = subst (λ k. AreLoads k c.deal_group.new.dealt.items c.deal_group.new.loads) i.many c.in_ok-deal_group.ensures.loads;
      deals = subst (λ v. Deals c.args.plan.now (length c.args.used.now) [] v c.deal_group.new.dealt.items) (sym (take_next order place 0 c.loop-place-test.true))
          (deals_more c.args.plan.now (length c.args.used.now) [] (take place order) c.loop-place.dealt.items c.deal_group.new.dealt.items (get_or order place 0) i.deals out);
    }

pub returns : goal.returns
returns c =
    subst (λ v. Deals c.args.plan.now (length c.args.used.now) [] v c.loop-place.dealt.items) (take_all c.loop-place.place c.args.order.now c.loop-place-test.false) c.loop-place.invariant.deals
