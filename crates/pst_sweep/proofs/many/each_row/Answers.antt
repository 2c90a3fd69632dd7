use Rattle.std.proofs.Common.{◌≡◌, ◌-◌, arith}
use Rattle.rayon.proofs.ToStd.{nat_range-All}
use Rattle.pst_sweep.proofs.Rows.{collected}
use Rattle.pst_sweep.proofs.many.each_row.Goals as goal

pub collect-requires-clause-ready : goal.collect-requires-clause-ready
collect-requires-clause-ready g c κs within =
    let ends = c.into_par_iter.ensures in
    let inside = nat_range-All (goal.F-pre g c.args.search) 0 c.args.count (λ i low high. c.requires.callable i high) in
    rw (c.map.ensures.base, c.map.ensures.f, c.with_min_len.ensures.base, ends.0, ends.1) (λ k d lt. (inside k d lt, λ y p. tt))

pub returns : goal.returns
returns g c =
    let ends = c.into_par_iter.ensures in
    let whole : c.args.count - 0 ≡ c.args.count = omega arith in
    let told = c.in_ok-rows.ensures in
    let chain = rw (c.map.ensures.base, c.map.ensures.f, c.with_min_len.ensures.base, ends.0, ends.1, whole) at told.1 in
    collected (λ v. v.items) (goal.F-post g c.args.search) chain.0 _ told.0 c.in_ok-rows.rows chain.1 chain.2 told.2
