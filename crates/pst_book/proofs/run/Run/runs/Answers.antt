use Rattle.std.proofs.Common.{◌≡◌, ◌<◌, ◌∙◌, length, get_or, true, false, subst, sym, ap, arith, ⊎_elim}
use Rattle.std.specs.Prelude.{IsTrue, ◌↔◌, not}
use Rattle.std.proofs.lemmas.Bool.{cases_Bool}
use Rattle.pst_scen.specs.Trace.{Runs}
use Rattle.pst_book.specs.Tables.{RunView}
use Rattle.pst_book.proofs.Ties.{read}
use Rattle.pst_book.proofs.run.Run.runs.Goals as goal

pub returns-then-act-len-clause-is : goal.returns-then-act-len-clause-is
returns-then-act-len-clause-is c =
    let r = c.self.inside in
    let past = c.if-act-len.true in
    let many = c.len.ensures in (
      λ t. cc,
      λ q. let runs = subst (λ (v : RunView). Runs v.trace c.args.act) (sym c.self.view_is) q in
          let l = c.self.invariant.inside.acts c.args.act runs.0 in absurd (omega (arith, l, past, many)),
    )

pub returns-then-index-clause-is : goal.returns-then-index-clause-is
returns-then-index-clause-is c =
    let r = c.self.inside in
    let x = c.index-then-index.result.now in
    let l : c.args.act < length r.plan.groups = let a = c.if-act-len.false in omega (arith, a, c.len.ensures) in
    let s : get_or r.started.items c.args.act false ≡ true = read r.started.items c.args.act c.index.result.now false (omega (arith, l, c.self.invariant.many_started)) c.index.ensures ∙ c.if-index.true in
    let e : get_or r.ended.items c.args.act false ≡ x = read r.ended.items c.args.act x false (omega (arith, l, c.self.invariant.many_ended)) c.index-then-index.ensures in
    let ended = c.self.invariant.ended_is c.args.act l in
    subst (λ (v : RunView). IsTrue (not x) ↔ Runs v.trace c.args.act) c.self.view_is (
      λ t. ((c.self.invariant.started_is c.args.act l).0 s, λ q. let y : x ≡ true = sym e ∙ ended.1 q in let z : not x ≡ false = ap not y in let both : true ≡ false = sym t ∙ z in cc),
      λ q. ⊎_elim (λ y. absurd (q.1 (ended.0 (e ∙ y)))) (λ n. ap not n) (cases_Bool x),
    )
