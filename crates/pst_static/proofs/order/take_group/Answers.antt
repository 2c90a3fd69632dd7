use Rattle.std.proofs.Common.{◌≡◌, ◌<◌, ◌∙◌, length, get_or, refl, sym, subst, true, false, arith, ⊎_elim}
use Rattle.std.proofs.lemmas.Bool.{cases_lt, cases_eq}
use Rattle.pst_static.proofs.order.take_group.Goals as goal

pub members-init : goal.members-init
members-init c =
    let numbered = c.len-count.ensures.numbered in
    let g = c.requires.group_in in
    record {
      here = λ l. c.requires.number;
      owed = c.requires.owed;
      hinted = c.requires.hinted;
      done = λ a l e. let k = numbered.least a (omega (arith, l, g)) in absurd (omega (arith, k, e, l));
      rest = λ a l. refl;
      others = λ a n. refl;
    }

pub take_one-requires-clause-act_in : goal.take_one-requires-clause-act_in
take_one-requires-clause-act_in c = let t = c.members-test.true in let n = c.len-count.ensures.is in omega (arith, t, n)

pub take_one-requires-clause-fresh : goal.take_one-requires-clause-fresh
take_one-requires-clause-fresh c =
    let t = c.members-test.true in
    let n = c.len-count.ensures.is in
    let l : c.members.act < length c.args.plan.now.groups = omega (arith, t, n) in
    let i = c.members.invariant in
    i.rest c.members.act (omega arith) ∙ c.requires.fresh c.members.act l (i.here l)

pub members-preserved : goal.members-preserved
members-preserved c =
    let groups = c.args.plan.now.groups in
    let act = c.members.act in
    let t = c.members-test.true in
    let n = c.len-count.ensures.is in
    let l : act < length groups = omega (arith, t, n) in
    let i = c.members.invariant in
    let o = c.take_one.ensures in
    let next = c.requires.next.each act l in
    let behind = next.behind in
    record {
      here = λ m. next.same m ∙ i.here l;
      owed = o.owed;
      hinted = o.hinted;
      done = λ a m e. ⊎_elim (λ k. o.others a (λ q. omega (arith, q, k)) ∙ i.done a k e)
          (λ k. ⊎_elim (λ q. subst (λ v. get_or c.take_one.new.taken v false ≡ true) (sym q) o.here)
          (λ q. absurd (next.none_between a (omega (arith, k, q)) m (e ∙ sym (i.here l)))) (cases_eq a act)) (cases_lt a act);
      rest = λ a m. o.others a (λ q. omega (arith, q, m, behind)) ∙ i.rest a (omega (arith, m, behind));
      others = λ a k. o.others a (λ q. k (subst (λ v. get_or groups v 0 ≡ c.args.group) (sym q) (i.here l))) ∙ i.others a k;
    }

pub returns : goal.returns
returns c =
    let i = c.members.invariant in
    let f = c.members-test.false in
    let n = c.len-count.ensures.is in
    record {
      owed = i.owed;
      hinted = i.hinted;
      taken = record { members = λ a l e. i.done a (omega (arith, l, f, n)) e; others = i.others };
    }
