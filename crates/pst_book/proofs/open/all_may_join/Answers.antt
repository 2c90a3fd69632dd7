use Rattle.std.proofs.Common.{◌≡◌, ◌<◌, ◌∙◌, ℕ, length, refl, subst, sym, ap, arith, ⊎_elim}
use Rattle.std.proofs.lemmas.Bool.{cases_lt, cases_eq}
use Rattle.pst_scen.specs.Plan.{Entries, AreGroupsNumbered}
use Rattle.pst_book.specs.Books.{MayJoin}
use Rattle.pst_book.proofs.Loops.{not_true}
use Rattle.pst_book.proofs.open.all_may_join.Goals as goal

-- the number of actions
many : {p q : Entries} {n : ℕ} → p ≡ q → n ≡ length p.groups → n ≡ length q.groups
many e f = f ∙ ap (λ (v : Entries). length v.groups) e

pub members-init : goal.members-init
members-init c =
    let numbered = subst (λ (p : Entries). AreGroupsNumbered p.groups) c.plan.ensures c.len-count.ensures.numbered in
    record {
      here = λ l. c.requires.number;
      passed = λ a l e. let k = numbered.least a (let g = c.requires.group_in in omega (arith, l, g)) in absurd (omega (arith, k, e, l));
    }

pub members-preserved : goal.members-preserved
members-preserved c =
    let run = c.args.run.now in
    let n = c.next-act.ensures in
    let l : c.members.act < length run.plan.groups = let t = c.members-test.true in let e = many c.plan.ensures c.len-count.ensures.is in omega (arith, t, e) in
    let here = c.members.invariant.here l in
    record {
      here = λ m. n.same m ∙ here;
      passed = λ a m e. ⊎_elim (λ k. c.members.invariant.passed a k e)
          (λ k. ⊎_elim (λ q. subst (λ v. MayJoin run.plan run.trace v) (sym q) (c.may_join.ensures.0 c.if-not-may_join.false))
          (λ q. absurd (n.none_between a (omega (arith, k, q)) m (e ∙ sym here))) (cases_eq a c.members.act)) (cases_lt a c.members.act);
    }

pub returns-then-not-may_join : goal.returns-then-not-may_join
returns-then-not-may_join c =
    let run = c.args.run.now in
    let l : c.members.act < length run.plan.groups = let t = c.members-test.true in let e = many c.plan.ensures c.len-count.ensures.is in omega (arith, t, e) in
    (λ t. cc, λ all. absurd (not_true c.may_join.result c.may_join.ensures.1 c.if-not-may_join.true (all c.members.act l (c.members.invariant.here l))))

pub returns : goal.returns
returns c =
    (λ t a l e. c.members.invariant.passed a (let p = c.members-test.false in let k = many c.plan.ensures c.len-count.ensures.is in omega (arith, p, k, l)) e, λ all. refl)
