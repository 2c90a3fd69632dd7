use Rattle.std.proofs.Common.{◌≡◌, ◌<◌, ℕ, length, refl, sym, ap, subst, ◌∙◌, arith}
use Rattle.pst_scen.specs.declared.rows.Rows.{Rows}
use Rattle.pst_scen.specs.Refusals.{IsParallelClash}
use Rattle.pst_scen.specs.Rows.{Has}
use Rattle.pst_square.specs.Next.{IsNext}
use Rattle.pst_nodes.proofs.Bits.{no_true}
use Rattle.pst_graph.proofs.Least.{found_in, passed_in, nowhere_in}
use Rattle.pst_graph.proofs.Refused.{parallel_clash_has}
use Rattle.pst_graph.proofs.refusals.find_contender_of.Goals as goal

pub contend_beside-requires : goal.contend_beside-requires
contend_beside-requires c =
    let s = c.args.scenario.now in
    let size = c.conflict_rows-rows.ensures.size ∙ c.requires.entries.many in
    let next = c.in-Some.ensures in
    record {
      linked = c.requires.linked;
      order = let behind = next.behind in let low = c.rest.invariant.behind in omega (arith, behind, low);
      b_in = subst (λ (n : ℕ). c.in-Some.b < n) size next.inside;
    }

pub rest-init : goal.rest-init
rest-init c = record { behind = omega arith; before = λ b below h. let order = h.order in omega (arith, order, below) }

pub returns-then-contend_beside : goal.returns-then-contend_beside
returns-then-contend_beside c =
    let s = c.args.scenario.now in
    let p = c.args.plan.now in
    let size : p.conflict.size ≡ length s.actions = ap (λ (rows : Rows). rows.size) (sym c.conflict_rows-rows.ensures.is) ∙ c.conflict_rows-rows.ensures.size ∙ c.requires.entries.many in
    let next = subst (λ (rows : Rows). IsNext rows c.args.a c.rest.at c.in-Some.b) c.conflict_rows-rows.ensures.is c.in-Some.ensures in
    found_in p.conflict c.args.a (IsParallelClash s c.args.a) (λ b. parallel_clash_has s p c.requires.linked c.requires.entries c.args.a b size) c.rest.at c.rest.invariant.behind c.rest.invariant.before c.in-Some.b next
    (c.if-contend_beside.ensures.0 refl)

pub rest-preserved : goal.rest-preserved
rest-preserved c =
    let s = c.args.scenario.now in
    let p = c.args.plan.now in
    let size : p.conflict.size ≡ length s.actions = ap (λ (rows : Rows). rows.size) (sym c.conflict_rows-rows.ensures.is) ∙ c.conflict_rows-rows.ensures.size ∙ c.requires.entries.many in
    let next = subst (λ (rows : Rows). IsNext rows c.args.a c.rest.at c.in-Some.b) c.conflict_rows-rows.ensures.is c.in-Some.ensures in
    record {
      behind = let behind = next.behind in let low = c.rest.invariant.behind in omega (arith, behind, low);
      before = passed_in p.conflict c.args.a (IsParallelClash s c.args.a) (λ b. parallel_clash_has s p c.requires.linked c.requires.entries c.args.a b size) c.rest.at c.rest.invariant.behind c.rest.invariant.before c.in-Some.b next
          (λ h. no_true (c.if-contend_beside.ensures.1 h));
    }

pub returns : goal.returns
returns c =
    let s = c.args.scenario.now in
    let p = c.args.plan.now in
    let size : p.conflict.size ≡ length s.actions = ap (λ (rows : Rows). rows.size) (sym c.conflict_rows-rows.ensures.is) ∙ c.conflict_rows-rows.ensures.size ∙ c.requires.entries.many in
    let none = subst (λ (rows : Rows). (b : ℕ) → c.rest.at < b → b < rows.size → Has rows c.args.a b → ⊥) c.conflict_rows-rows.ensures.is c.in_default.ensures in
    nowhere_in p.conflict c.args.a (IsParallelClash s c.args.a) (λ b. parallel_clash_has s p c.requires.linked c.requires.entries c.args.a b size) c.rest.at c.rest.invariant.behind c.rest.invariant.before none

pub returns-then-not-stands_in_parallel : goal.returns-then-not-stands_in_parallel
returns-then-not-stands_in_parallel c = λ b h. no_true (c.if-not-stands_in_parallel.ensures b h.parallel)
