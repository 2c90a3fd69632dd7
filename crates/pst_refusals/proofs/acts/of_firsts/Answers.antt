use Rattle.std.proofs.Common.{◌≡◌, ◌<◌, length, true, false, ◌&&◌, sym, ◌∙◌, subst, arith}
use Rattle.std.specs.List.{list_any}
use Rattle.pst_model.specs.ModelView.{view_model}
use Rattle.pst_known.specs.Known.{seen}
use Rattle.pst_slots.specs.Listed.{of_first_object}
use Rattle.pst_refusals.specs.Failing.{fails, is_used_state}
use Rattle.pst_refusals.proofs.Walks.{passed, found}
use Rattle.pst_refusals.proofs.acts.of_firsts.Goals as goal

pub returns-then-branch : goal.returns-then-branch
returns-then-branch c =
    let m = view_model c.args.scene.now.model.now in
    let s = seen c.args.scene.now in
    let n = length c.args.scene.now.model.now.pools.items in
    let i = c.loop-pool.pool in
    let l : i < n = omega arith in
    let same : c.in-Ok.short ≡ i = omega arith in
    let e : (is_used_state m s.actions i && list_any (fails c.args.by_values) (of_first_object m s i)) ≡ true =
    subst (λ k. (is_used_state m s.actions k && list_any (fails c.args.by_values) (of_first_object m s k)) ≡ true) same (sym c.in_ok-of_pool.ensures ∙ c.if-branch.true) in
    sym (found (fails c.args.by_values) (of_first_object m s) (is_used_state m s.actions) i n l e) ∙ c.loop-pool.invariant

pub loop-pool-preserved : goal.loop-pool-preserved
loop-pool-preserved c =
    let m = view_model c.args.scene.now.model.now in
    let s = seen c.args.scene.now in
    let n = length c.args.scene.now.model.now.pools.items in
    let i = c.loop-pool.pool in
    let l : i < n = omega arith in
    let same : c.in-Ok.short ≡ i = omega arith in
    let e : (is_used_state m s.actions i && list_any (fails c.args.by_values) (of_first_object m s i)) ≡ false =
    subst (λ k. (is_used_state m s.actions k && list_any (fails c.args.by_values) (of_first_object m s k)) ≡ false) same (sym c.in_ok-of_pool.ensures ∙ c.if-branch.false) in
    sym (passed (fails c.args.by_values) (of_first_object m s) (is_used_state m s.actions) i n l e) ∙ c.loop-pool.invariant
