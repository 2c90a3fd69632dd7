use Rattle.std.proofs.Common.{◌<◌, ◌∙◌, length, refl, subst, sym, arith, ⊎_elim}
use Rattle.std.proofs.lemmas.Bool.{cases_lt, cases_eq}
use Rattle.pst_static.specs.Standing.{CanJoin}
use Rattle.pst_static.proofs.standing.can_begin.Goals as goal

pub members-init : goal.members-init
members-init c =
    let numbered = c.len-count.ensures.numbered in
    let g = c.requires.group_in in
    record {
      here = λ l. c.requires.number;
      done = λ a l m e. let k = numbered.least a m in absurd (omega (arith, k, e, l));
    }

pub members-preserved : goal.members-preserved
members-preserved c =
    let groups = c.args.plan.now.groups in
    let act = c.members.act in
    let t = c.members-test.true in
    let n = c.len-count.ensures.is in
    let l : act < length groups = omega (arith, t, n) in
    let i = c.members.invariant in
    let next = c.requires.next.each act l in
    record {
      here = λ m. next.same m ∙ i.here l;
      done = λ a m k e. ⊎_elim (λ b. i.done a b k e)
          (λ b. ⊎_elim (λ q. subst (λ v. CanJoin c.args.programs.now c.args.places.now c.args.started.now v) (sym q) (c.if-not-can_join.ensures.0 refl))
          (λ q. absurd (next.none_between a (omega (arith, b, q)) m (e ∙ sym (i.here l)))) (cases_eq a act))
          (cases_lt a act);
    }
