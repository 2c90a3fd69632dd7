use Rattle.std.proofs.Common.{◌+◌, ◌-◌, Some, sym, subst, arith}
use Rattle.pst_values.specs.Options.{HoldsRun}
use Rattle.pst_values.specs.Kept.{AreHulls}
use Rattle.pst_values.proofs.KeptLemmas.{size_some, hull_of, more_hulls}
use Rattle.pst_values.proofs.search.hulls.Goals as goal

pub span_of_run-requires-clause-some : goal.span_of_run-requires-clause-some
span_of_run-requires-clause-some c = let some = size_some c.domain-item.result c.spans.ensures.domain in omega (arith, some, c.size.ensures)

pub loop-domain-preserved : goal.loop-domain-preserved
loop-domain-preserved c =
    let x = c.domain-item.result in
    let holds = subst (λ n. HoldsRun x 0 n c.span_of_run.result) c.size.ensures c.span_of_run.ensures.holds in
    subst (AreHulls c.args.domains.now (c.loop-domain.domain-index + 1)) (sym c.in_ok-push.ensures.items)
    (more_hulls c.args.domains.now c.loop-domain.domain-index c.loop-domain.spans.items x (Some c.span_of_run.result) c.loop-domain-test.true c.domain-item.is
    (hull_of x c.span_of_run.result (0 + (c.size.result - 1)) (c.domains_list_values.ensures x c.spans.ensures.domain) c.span_of_run.ensures.upright holds c.span_of_run.ensures.low c.span_of_run.ensures.high) c.loop-domain.invariant)
