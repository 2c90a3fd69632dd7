use Rattle.std.proofs.Common.{◌≡◌, ◌<◌, ◌∙◌, length, get_or, true, false, subst, sym, arith, ⊎_elim}
use Rattle.std.specs.Prelude.{IsTrue, ◌↔◌, nat_eq}
use Rattle.std.proofs.lemmas.Bool.{eqb-true, eq-eqb}
use Rattle.pst_book.specs.Books.{MayJoin}
use Rattle.pst_book.specs.Tables.{RunView}
use Rattle.pst_book.proofs.Events.{ended_or}
use Rattle.pst_book.proofs.Numbers.{none_has, is_none}
use Rattle.pst_book.proofs.Ties.{read}
use Rattle.pst_book.proofs.run.Run.may_join.Goals as goal

pub returns-then-index : goal.returns-then-index
returns-then-index c =
    let r = c.self.inside in
    let l : c.args.act < length r.plan.groups = subst (λ (v : RunView). c.args.act < length v.plan.groups) (sym c.self.view_is) c.requires in
    let s : get_or r.started.items c.args.act false ≡ true = read r.started.items c.args.act c.index.result.now false (omega (arith, l, c.self.invariant.many_started)) c.index.ensures ∙ c.if-index.true in
    subst (λ (v : RunView). IsTrue false ↔ MayJoin v.plan v.trace c.args.act) c.self.view_is
    (λ t. cc, λ m. absurd (m.fresh ((c.self.invariant.started_is c.args.act l).0 s)))

pub returns-then-index-gt0 : goal.returns-then-index-gt0
returns-then-index-gt0 c =
    let r = c.self.inside in
    let l : c.args.act < length r.plan.groups = subst (λ (v : RunView). c.args.act < length v.plan.groups) (sym c.self.view_is) c.requires in
    let e : get_or r.awaited.items c.args.act 0 ≡ c.index-2.result.now = read r.awaited.items c.args.act c.index-2.result.now 0 (omega (arith, l, c.self.invariant.many_awaited)) c.index-2.ensures in
    subst (λ (v : RunView). IsTrue false ↔ MayJoin v.plan v.trace c.args.act) c.self.view_is
    (λ t. cc, λ m. let z = is_none (c.self.invariant.awaited_is c.args.act l) (λ b q. q.2 (m.awaited b q.0 q.1)) in let p = c.if-index-gt0.true in absurd (omega (arith, z, e, p)))

pub returns : goal.returns
returns c =
    let r = c.self.inside in
    let l : c.args.act < length r.plan.groups = subst (λ (v : RunView). c.args.act < length v.plan.groups) (sym c.self.view_is) c.requires in
    let s : get_or r.started.items c.args.act false ≡ false = read r.started.items c.args.act c.index.result.now false (omega (arith, l, c.self.invariant.many_started)) c.index.ensures ∙ c.if-index.false in
    let e : get_or r.awaited.items c.args.act 0 ≡ c.index-2.result.now = read r.awaited.items c.args.act c.index-2.result.now 0 (omega (arith, l, c.self.invariant.many_awaited)) c.index-2.ensures in
    let f : get_or r.in_the_way.items c.args.act 0 ≡ c.index-3.result.now = read r.in_the_way.items c.args.act c.index-3.result.now 0 (omega (arith, l, c.self.invariant.many_in_the_way)) c.index-3.ensures in
    let none : get_or r.awaited.items c.args.act 0 ≡ 0 = let n = c.if-index-gt0.false in omega (arith, n, e) in
    let way = c.self.invariant.in_the_way_is c.args.act l in
    subst (λ (v : RunView). IsTrue (nat_eq c.index-3.result.now 0) ↔ MayJoin v.plan v.trace c.args.act) c.self.view_is (
      λ t. record {
        fresh = λ q. let both : false ≡ true = sym s ∙ (c.self.invariant.started_is c.args.act l).1 q in cc;
        awaited = λ b k h. ⊎_elim (λ y. y) (λ n. absurd (none_has (c.self.invariant.awaited_is c.args.act l) none b (k, h, n))) (ended_or r.trace.items b);
        clear = λ b k q h. none_has way (f ∙ eqb-true c.index-3.result.now 0 t) b (k, h, q);
      },
      λ m. eq-eqb c.index-3.result.now 0 (sym f ∙ is_none way (λ b q. m.clear b q.0 q.2 q.1)),
    )
