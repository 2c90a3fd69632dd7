use Rattle.std.proofs.Common.{◌*◌, subst, ⊎_elim, arith}
use Rattle.std.proofs.lemmas.Bool.{cases_lt}
use Rattle.pst_scen.specs.Plan.{Entries, AreGroupsNumbered}
use Rattle.pst_book.proofs.Marking.{not_found}
use Rattle.pst_book.proofs.Openings.{none_starts_idle}
use Rattle.pst_book.proofs.ready.candidate.Goals as goal

pub returns-then-idle-eq0-clause-found : goal.returns-then-idle-eq0-clause-found
returns-then-idle-eq0-clause-found c =
    let run = c.args.run.now in
    none_starts_idle run.plan run.lanes run.trace c.count_idle-idle.result c.count_idle-idle.ensures c.if-idle-eq0.true (subst (λ (p : Entries). AreGroupsNumbered p.groups) c.plan.ensures c.len-size.ensures.numbered)

pub returns-in-Some-clause-found : goal.returns-in-Some-clause-found
returns-in-Some-clause-found c =
    let f = c.in-Some.ensures.found in
    record {
      below = f.inside.1;
      can = f.can;
      first = λ other l can. ⊎_elim (λ b. c.loop-place.invariant.none other b (let i = f.inside.1 in omega (arith, l, i)) can) (λ b. f.least other b l can) (cases_lt other (c.loop-place.place * 64));
    }

pub loop-place-preserved : goal.loop-place-preserved
loop-place-preserved c = record {
  ready = c.look_at.ensures.ready;
  none = λ g l k can. ⊎_elim (λ b. c.loop-place.invariant.none g b k can) (λ b. not_found c.look_at.result _ _ c.look_at.ensures.found c.in_default.not-Some g b (omega (arith, l)) k can) (cases_lt g (c.loop-place.place * 64));
}

pub returns-clause-found : goal.returns-clause-found
returns-clause-found c = λ g l can. c.loop-place.invariant.none g (let past = c.loop-place-test.false in let many = c.loop-place.invariant.ready.many in omega (arith, l, past, many)) l can
