use Rattle.std.proofs.Common.{◌≡◌, ◌<◌, ℕ, length, refl, sym, ap, subst, ◌∙◌, arith}
use Rattle.std.proofs.lemmas.Bool.Decides.{nat_tests}
use Rattle.pst_scen.specs.Plan.{widest}
use Rattle.pst_scen.specs.declared.rows.Rows.{Rows}
use Rattle.pst_scen.specs.Refusals.{GroupClashes, One}
use Rattle.pst_scen.specs.Rows.{Has}
use Rattle.pst_square.specs.Next.{IsNext}
use Rattle.pst_nodes.proofs.Bits.{no_true}
use Rattle.pst_graph.proofs.Least.{least_here, found_in, passed_in, nowhere_in}
use Rattle.pst_graph.proofs.Refused.{no_clash_ahead, no_clash_before, no_clash_in_narrow, clash_has, share_is_clash}
use Rattle.pst_graph.proofs.refusals.find_clash_of.Goals as goal

pub returns-then-clashes_alone : goal.returns-then-clashes_alone
returns-then-clashes_alone c =
    let s = c.args.scenario.now in
    least_here (GroupClashes s c.args.a) c.args.a (λ b below. no_clash_ahead s c.args.a b below) (One c.args.a c.requires.a_in (c.if-clashes_alone.ensures.0 refl))

pub rest-init : goal.rest-init
rest-init c =
    record {
      behind = omega arith;
      before = λ b below. no_clash_before c.args.scenario.now c.args.a b (λ alone. no_true (c.if-clashes_alone.ensures.1 alone)) below;
    }

pub returns-then-share_group : goal.returns-then-share_group
returns-then-share_group c =
    let s = c.args.scenario.now in
    let p = c.args.plan.now in
    let size : p.conflict.size ≡ length s.actions = ap (λ (rows : Rows). rows.size) (sym c.conflict_rows-rows.ensures.is) ∙ c.conflict_rows-rows.ensures.size ∙ c.requires.entries.many in
    let next = subst (λ (rows : Rows). IsNext rows c.args.a c.rest.at c.in-Some.b) c.conflict_rows-rows.ensures.is c.in-Some.ensures in
    let order : c.args.a < c.in-Some.b = let behind = next.behind in let low = c.rest.invariant.behind in omega (arith, behind, low) in
    let b_in : c.in-Some.b < length s.actions = subst (λ (n : ℕ). c.in-Some.b < n) size next.inside in
    found_in p.conflict c.args.a (GroupClashes s c.args.a) (λ b. clash_has s p c.requires.linked c.requires.entries c.args.a b size) c.rest.at c.rest.invariant.behind c.rest.invariant.before c.in-Some.b next
    ((share_is_clash s p c.requires.linked c.requires.entries c.args.a c.in-Some.b order b_in next.has).0 (c.if-share_group.ensures.0 refl))

pub rest-preserved : goal.rest-preserved
rest-preserved c =
    let s = c.args.scenario.now in
    let p = c.args.plan.now in
    let size : p.conflict.size ≡ length s.actions = ap (λ (rows : Rows). rows.size) (sym c.conflict_rows-rows.ensures.is) ∙ c.conflict_rows-rows.ensures.size ∙ c.requires.entries.many in
    let next = subst (λ (rows : Rows). IsNext rows c.args.a c.rest.at c.in-Some.b) c.conflict_rows-rows.ensures.is c.in-Some.ensures in
    let order : c.args.a < c.in-Some.b = let behind = next.behind in let low = c.rest.invariant.behind in omega (arith, behind, low) in
    let b_in : c.in-Some.b < length s.actions = subst (λ (n : ℕ). c.in-Some.b < n) size next.inside in
    record {
      behind = omega (arith, order);
      before = passed_in p.conflict c.args.a (GroupClashes s c.args.a) (λ b. clash_has s p c.requires.linked c.requires.entries c.args.a b size) c.rest.at c.rest.invariant.behind c.rest.invariant.before c.in-Some.b next
          (λ h. no_true (c.if-share_group.ensures.1 ((share_is_clash s p c.requires.linked c.requires.entries c.args.a c.in-Some.b order b_in next.has).1 h)));
    }

pub returns : goal.returns
returns c =
    let s = c.args.scenario.now in
    let p = c.args.plan.now in
    let size : p.conflict.size ≡ length s.actions = ap (λ (rows : Rows). rows.size) (sym c.conflict_rows-rows.ensures.is) ∙ c.conflict_rows-rows.ensures.size ∙ c.requires.entries.many in
    let none = subst (λ (rows : Rows). (b : ℕ) → c.rest.at < b → b < rows.size → Has rows c.args.a b → ⊥) c.conflict_rows-rows.ensures.is c.in_default.ensures in
    nowhere_in p.conflict c.args.a (GroupClashes s c.args.a) (λ b. clash_has s p c.requires.linked c.requires.entries c.args.a b size) c.rest.at c.rest.invariant.behind c.rest.invariant.before none

pub returns-then-width-lt2 : goal.returns-then-width-lt2
returns-then-width-lt2 c = λ b h.
    let s = c.args.scenario.now in
    let p = c.args.plan.now in
    let narrow : widest p.groups < 2 = grind (arith, nat_tests, c.width.ensures, c.if-width-lt2.true) in
    no_clash_in_narrow s p c.requires.linked c.requires.entries c.args.a narrow (λ alone. no_true (c.if-clashes_alone.ensures.1 alone)) b h
