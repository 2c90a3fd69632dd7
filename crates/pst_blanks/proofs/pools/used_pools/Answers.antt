use Rattle.std.proofs.Common.{◌≡◌, ◌<◌, ◌&&◌, length, false, ap₂, ◌∙◌, arith}
use Rattle.std.specs.List.{list_any}
use Rattle.pst_model.specs.ModelView.{view_model}
use Rattle.pst_legal.specs.Types.{is_state_pool}
use Rattle.pst_legal.specs.Blanks.{refers_to}
use Rattle.pst_blanks.proofs.Alters.{get_same}
use Rattle.pst_blanks.proofs.Rows.{used_step}
use Rattle.pst_blanks.proofs.pools.used_pools.Goals as goal

pub loop-pool-preserved : goal.loop-pool-preserved
loop-pool-preserved c =
    let m = view_model c.args.model.now in
    let i = c.loop-pool.pool in
    let marks = c.in_ok-marks.marks.items in
    let n = length c.args.model.now.pools.items in
    let long = c.in_ok-marks.ensures.long in
    let count = c.len.ensures in
    let all = c.args.model.now.pools.ok.0 in
    let l : i < n = omega (arith, long, count, all) in
    let h : i < length marks = omega arith in
    let k : i < c.len.result = omega (arith, long) in
    let used : c.index.result.now ≡ list_any (refers_to i) c.args.acts.now = c.index.ensures ∙ get_same marks i c.index.result.now false h ∙ c.in_ok-marks.ensures.marked i k in
    used_step (λ pool. is_state_pool m pool && list_any (refers_to pool) c.args.acts.now) n i _ c.loop-pool.pools.items c.add_pool.new.pools.items _ l c.in_ok-add_pool.ensures (ap₂ (λ a b. a && b) c.is_state_pool.ensures used) c.loop-pool.invariant
