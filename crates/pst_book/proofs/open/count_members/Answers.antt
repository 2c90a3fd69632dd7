use Rattle.std.proofs.Common.{◌≡◌, ◌<◌, ◌∙◌, ◌∷◌, ℕ, List, drop, length, subst, ap, arith}
use Rattle.pst_scen.specs.Plan.{Entries, AreGroupsNumbered, places_from, members}
use Rattle.pst_book.proofs.Starting.{members_begin, places_next, places_end}
use Rattle.pst_book.proofs.open.count_members.Goals as goal

-- the number of actions
many : {p q : Entries} {n : ℕ} → p ≡ q → n ≡ length p.groups → n ≡ length q.groups
many e f = f ∙ ap (λ (v : Entries). length v.groups) e

pub members-init : goal.members-init
members-init c =
    let groups = c.args.run.now.plan.groups in
    let numbered = subst (λ (p : Entries). AreGroupsNumbered p.groups) c.plan.ensures c.len-count.ensures.numbered in
    let e : length (members groups c.args.group) ≡ length (places_from (drop c.args.group groups) c.args.group c.args.group) = ap (λ (xs : List ℕ). length xs) (members_begin groups c.args.group numbered c.requires.group_in) in
    record {
      here = λ l. c.requires.number;
      is = omega (arith, e);
      few = omega arith;
    }

pub members-preserved : goal.members-preserved
members-preserved c =
    let groups = c.args.run.now.plan.groups in
    let n = c.next-act.ensures in
    let i = c.members.invariant in
    let l : c.members.act < length groups = let t = c.members-test.true in let e = many c.plan.ensures c.len-count.ensures.is in omega (arith, t, e) in
    let here = i.here l in
    let e : length (places_from (drop c.members.act groups) c.members.act c.args.group) ≡ length (c.members.act ∷ places_from (drop c.next-act.result groups) c.next-act.result c.args.group) =
    ap (λ (xs : List ℕ). length xs) (places_next groups c.members.act c.next-act.result c.args.group l here n) in
    let is = i.is in
    record {
      here = λ m. n.same m ∙ here;
      is = omega (arith, is, e);
      few = let f = i.few in let b = n.behind in omega (arith, f, b);
    }

pub returns : goal.returns
returns c =
    let groups = c.args.run.now.plan.groups in
    let past = c.members-test.false in
    let k = many c.plan.ensures c.len-count.ensures.is in
    let e : length (places_from (drop c.members.act groups) c.members.act c.args.group) ≡ 0 = ap (λ (xs : List ℕ). length xs) (places_end groups c.members.act c.args.group (omega (arith, past, k))) in
    let is = c.members.invariant.is in
    omega (arith, is, e)
