use Rattle.std.proofs.Common.{◌≡◌, ℕ, ◌++◌, drop, map}
use Rattle.std.specs.List.{flat_map, enumerate_from}
use Rattle.pst_model.specs.ModelView.{view_model, view_action}
use Rattle.pst_scen.specs.declared.act.Flow.{Flow}
use Rattle.pst_legal.specs.SupplyReading.{sources_of_type}
use Rattle.pst_open_ends.specs.Beyond.{wanted, given_at}
use Rattle.pst_open_ends.proofs.beyond.add_types.Given as goal

abbrev pub invariant-loop-kind : goal.invariant-loop-kind
invariant-loop-kind l =
    (l.action ≡ l.kind-index)
    × ((need : Flow) (p : ℕ) → given_at need p l.pools.items ++ flat_map (sources_of_type (view_model l.model) (wanted need p)) (enumerate_from l.kind-index (map view_action (drop l.kind-index l.kind-items))) ≡ given_at need p l.initial.pools.items ++ flat_map (sources_of_type (view_model l.model) (wanted need p)) (enumerate_from 0 (map view_action l.kind-items)))
