use Rattle.std.proofs.Common.{◌≡◌, ◌∙◌, ℕ, List, length, get_or, ap, sym, subst}
use Rattle.std.specs.Global.{Vec}
use Rattle.std.specs.Vec.{with_items}
use Rattle.std.proofs.lemmas.Option.{slice_get-get_or}
use Rattle.pst_book.proofs.Ties.{put_back}
use Rattle.pst_static.specs.Stamps.{AreStampedByPlan}
use Rattle.pst_static.proofs.Drafting.{changed_at}
use Rattle.pst_static.proofs.latest.stamp_lane.Goals as goal

pub returns : goal.returns
returns c =
    let p = c.args.plan.now in
    let latest = c.args.latest.now in
    let lane = c.args.lane in
    let row : Vec ℕ = get_or latest lane c.index-latest-lane.result in
    let new = c.stamp_by_plan.new.places in
    let same : length new ≡ length row.items = c.stamp_by_plan.ensures.many ∙ ap (λ (v : List ℕ). length v) c.deref_mut.ensures.value in
    changed_at (λ (x y : Vec ℕ). AreStampedByPlan p c.args.a c.args.value x.items y.items) latest lane row (with_items row new) c.requires.lane_in (slice_get-get_or latest lane c.index-latest-lane.result c.requires.lane_in)
    (subst (λ (v : List ℕ). AreStampedByPlan p c.args.a c.args.value row.items v) (sym (put_back row.len new row.items same row.ok.0))
    (subst (λ (v : List ℕ). AreStampedByPlan p c.args.a c.args.value v new) c.deref_mut.ensures.value c.stamp_by_plan.ensures))
