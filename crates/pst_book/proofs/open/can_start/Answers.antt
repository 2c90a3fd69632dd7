use Rattle.std.proofs.Common.{◌≡◌, ℕ, List, length, get_or, ap, subst, sym, ◌∙◌, arith, le-leb}
use Rattle.std.proofs.lemmas.Bool.{leb-true}
use Rattle.pst_scen.specs.Plan.{Entries, members}
use Rattle.pst_book.proofs.Idle.{idle_one}
use Rattle.pst_book.specs.Books.{CanStart}
use Rattle.pst_book.proofs.open.can_start.Goals as goal

pub returns : goal.returns
returns c =
    let run = c.args.run.now in
    let k = c.requires.idle in
    let n = length (members run.plan.groups c.args.group) in
    let many : c.count_members.result ≡ n = c.count_members.ensures in
    let number : get_or run.plan.groups c.args.group 0 ≡ c.args.group = subst (λ (p : Entries). get_or p.groups c.args.group 0 ≡ c.args.group) c.plan.ensures (sym c.group.ensures.is ∙ c.if-group.false) in (
      λ t. let l = leb-true c.count_members.result c.args.idle t in
          record {
            number = number;
            join = c.all_may_join.ensures.0 c.if-not-all_may_join.false;
            count = c.args.idle;
            idle = k;
            room = omega (arith, l, many);
          },
      λ (h : CanStart run.plan run.lanes run.trace c.args.group).
          let e = ap (λ (xs : List ℕ). length xs) (idle_one run.trace 0 run.lanes h.idle.idle k.idle h.idle.are k.are) in
          let l = h.room in
          let a = h.idle.count_is in
          let b = k.count_is in
          le-leb c.count_members.result c.args.idle (omega (arith, l, e, a, b, many)),
    )
