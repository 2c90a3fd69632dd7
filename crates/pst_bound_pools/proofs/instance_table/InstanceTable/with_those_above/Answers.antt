use Rattle.std.proofs.Common.{◌++◌, ◌∷◌, [], ◌-◌, arith, ℕ, List, sym, ap, ◌∙◌}
use Rattle.std.specs.Prelude.{Option}
use Rattle.std.specs.Option.{option_map_or}
use Rattle.pst_bound_pools.specs.Serving.{above_within}
use Rattle.pst_bound_pools.proofs.Above.{above_more}
use Rattle.pst_bound_pools.proofs.instance_table.InstanceTable.with_those_above.Goals as goal

pub loop-at-preserved : goal.loop-at-preserved
loop-at-preserved c =
    let xs = c.args.self.now in
    let left = c.loop-at.left in
    let above = c.loop-at.above.items in
    ap (λ (ys : List ℕ). ys ++ option_map_or (above_within (left - 1) xs) c.parent_of-at.result []) c.in_ok-push.ensures.items
    ∙ ap (λ (o : Option ℕ). (above ++ c.in-Some.here ∷ []) ++ option_map_or (above_within (left - 1) xs) o []) c.parent_of-at.ensures
    ∙ sym (above_more xs left above c.in-Some.here (omega arith))
    ∙ sym (ap (λ (o : Option ℕ). above ++ option_map_or (above_within left xs) o []) c.in-Some.is)
    ∙ c.loop-at.invariant
