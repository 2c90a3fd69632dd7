use Rattle.std.proofs.Common.{rules, ◌≡◌, ◌+◌, ◌-◌, Bool, not, true, false, Ok, refl, sym, subst, ap, ◌∙◌, arith}
use Rattle.std.specs.Prelude.{slice_get, length, map}
use Rattle.std.specs.Global.{Vec}
use Rattle.pst_expr.specs.declared.tree.Expr.{Expr}
use Rattle.pst_expr.specs.Tree.{view}
use Rattle.pst_narrow.specs.Narrowing.{AreOpen}
use Rattle.pst_narrow.specs.Watch.{IsWatch}
use Rattle.pst_values.specs.Solver.{bounds_at}
use Rattle.pst_expr.specs.Spans.{size_of}
use Rattle.pst_expr.specs.Spans as domain
use Rattle.pst_values.specs.Options.{IsRun}
use Rattle.pst_values.specs.Solver.{IsTried}
use Rattle.pst_values.proofs.SearchLemmas.{after_refused, found_first}
use Rattle.pst_values.proofs.solver.Solver.first_admitted.Goals as goal

not_is_true : (b : Bool) → not b ≡ true → b ≡ false
not_is_true true e = absurd cc
not_is_true false e = refl

not_is_false : (b : Bool) → not b ≡ false → b ≡ true
not_is_false true e = refl
not_is_false false e = absurd cc

pub loop-place-preserved-then-not-branch : goal.loop-place-preserved-then-not-branch
loop-place-preserved-then-not-branch c =
    let cs = c.args.self.now.constraints.items in
    let spans = c.args.domain.now in
    let run = c.run_at-run.result in
    let span = c.span_of_run-span.result in
    let h = c.loop-place.invariant.searching in
    let is : IsRun c.args.start (size_of spans) c.loop-place.place run = subst (λ n. IsRun c.args.start n c.loop-place.place run) c.size-size.ensures c.run_at-run.ensures in
    let k : IsTried cs c.args.mark c.args.variable span c.loop-place.self.trail c.admits.new.self.trail c.loop-place.self.bounds c.admits.new.self.bounds c.admits.result = subst (λ x. IsTried x.items c.args.mark c.args.variable span c.loop-place.self.trail c.admits.new.self.trail c.loop-place.self.bounds c.admits.new.self.bounds c.admits.result) c.loop-place.invariant.same c.admits.ensures.tried in
    let b : c.in_ok-admits.field-0 ≡ false = first_of (cc (c.if-not-branch.true), search (rules, not_is_true, c.if-not-branch.true)) in
    let some = is.some in
    let wide = h.wide in
    record {
      same = c.admits.ensures.same ∙ c.loop-place.invariant.same;
      watch = c.admits.ensures.watch ∙ c.loop-place.invariant.watch;
      searching = after_refused cs c.args.mark c.args.variable spans c.args.start c.args.from c.loop-place.place c.loop-place.width c.saturating_add-width.result c.min-count.result run span c.args.self.now.trail c.loop-place.self.trail c.admits.new.self.trail c.args.self.now.bounds c.loop-place.self.bounds c.admits.new.self.bounds c.admits.result
          (c.in_ok-admits.was ∙ ap (λ x. Ok x) b) (grind (arith, c.saturating_add-width.ensures, c.min-count.ensures, some, wide)) is (grind (arith, c.min-count.ensures)) c.span_of_run-span.ensures.holds h k;
    }

pub returns-then-count-eq1-clause-searched : goal.returns-then-count-eq1-clause-searched
returns-then-count-eq1-clause-searched c =
    let cs = c.args.self.now.constraints.items in
    let spans = c.args.domain.now in
    let run = c.run_at-run.result in
    let span = c.span_of_run-span.result in
    let h = c.loop-place.invariant.searching in
    let is : IsRun c.args.start (size_of spans) c.loop-place.place run = subst (λ n. IsRun c.args.start n c.loop-place.place run) c.size-size.ensures c.run_at-run.ensures in
    let k : IsTried cs c.args.mark c.args.variable span c.loop-place.self.trail c.admits.new.self.trail c.loop-place.self.bounds c.admits.new.self.bounds c.admits.result = subst (λ x. IsTried x.items c.args.mark c.args.variable span c.loop-place.self.trail c.admits.new.self.trail c.loop-place.self.bounds c.admits.new.self.bounds c.admits.result) c.loop-place.invariant.same c.admits.ensures.tried in
    let b : c.in_ok-admits.field-0 ≡ true = first_of (cc (c.if-not-branch.false), search (rules, not_is_false, c.if-not-branch.false)) in
    let one = c.if-count-eq1.true in
    let index : run.index + (c.min-count.result - 1) ≡ run.index = omega (arith, one) in
    found_first cs c.args.mark c.args.variable spans c.args.start c.args.from c.loop-place.place c.loop-place.width c.min-count.result run span c.args.self.now.trail c.loop-place.self.trail c.admits.new.self.trail c.args.self.now.bounds c.loop-place.self.bounds c.admits.new.self.bounds c.admits.result
    (c.in_ok-admits.was ∙ ap (λ x. Ok x) b) (omega (arith, c.loop-place-test.true, c.size-size.ensures)) (omega (arith, one)) is c.span_of_run-span.ensures.holds c.span_of_run-span.ensures.low (ap (slice_get (domain.values spans)) (sym index) ∙ c.span_of_run-span.ensures.high) h k

pub admits-requires-clause-watch : goal.admits-requires-clause-watch
admits-requires-clause-watch c =
    let h = c.loop-place.invariant in
    subst (λ n. IsWatch (map view c.loop-place.self.constraints.items) n c.loop-place.self.watch) (sym h.searching.base.count)
    (subst (λ (x : Vec Expr). IsWatch (map view x.items) (length c.args.self.now.bounds) c.loop-place.self.watch) (sym h.same) (subst (IsWatch (map view c.args.self.now.constraints.items) (length c.args.self.now.bounds)) (sym h.watch) c.requires.watch))

pub admits-requires-clause-settled : goal.admits-requires-clause-settled
admits-requires-clause-settled c e =
    let h = c.loop-place.invariant in
    subst (λ (x : Vec Expr). AreOpen (map view x.items) (bounds_at c.args.mark c.loop-place.self.trail c.loop-place.self.bounds)) (sym h.same) (subst (AreOpen (map view c.args.self.now.constraints.items)) (sym h.searching.base.bounds) (c.requires.settled e))
