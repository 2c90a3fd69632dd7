use Rattle.std.proofs.Common.{◌≡◌, ◌-◌, length}
use Rattle.std.specs.Prelude.{flat_map}
use Rattle.std.specs.List.{filter, list_any, range_with_len}
use Rattle.pst_model.specs.ModelView.{view_model}
use Rattle.pst_known.specs.Known.{seen}
use Rattle.pst_slots.specs.Listed.{of_first_object}
use Rattle.pst_refusals.specs.Failing.{fails, is_used_state}
use Rattle.pst_refusals.proofs.acts.of_firsts.Given as goal

abbrev pub invariant-loop-pool : goal.invariant-loop-pool
invariant-loop-pool l =
    list_any (fails l.by_values) (flat_map (of_first_object (view_model l.scene.model.now) (seen l.scene)) (filter (is_used_state (view_model l.scene.model.now) l.scene.actions.now) (range_with_len l.pool (length l.scene.model.now.pools.items - l.pool))))
    ≡ list_any (fails l.by_values) (flat_map (of_first_object (view_model l.scene.model.now) (seen l.scene)) (filter (is_used_state (view_model l.scene.model.now) l.scene.actions.now) (range_with_len 0 (length l.scene.model.now.pools.items))))
