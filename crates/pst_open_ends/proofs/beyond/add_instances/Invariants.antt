use Rattle.std.proofs.Common.{◌≡◌, ℕ, ◌++◌, drop}
use Rattle.std.specs.List.{flat_map}
use Rattle.pst_model.specs.ModelView.{view_model}
use Rattle.pst_scen.specs.declared.act.Flow.{Flow}
use Rattle.pst_legal.specs.SupplyReading.{sources_in}
use Rattle.pst_open_ends.specs.Options.{instances_from}
use Rattle.pst_open_ends.specs.Beyond.{wanted, given_at}
use Rattle.pst_open_ends.proofs.beyond.add_instances.Given as goal

abbrev pub invariant-loop-part : goal.invariant-loop-part
invariant-loop-part l =
    (l.number ≡ l.part-index)
    × ((need : Flow) (p : ℕ) → given_at need p l.pools.items ++ flat_map (sources_in (view_model l.model) (wanted need p) l.action) (instances_from l.kind.component l.part-index (drop l.part-index l.part-items)) ≡ given_at need p l.initial.pools.items ++ flat_map (sources_in (view_model l.model) (wanted need p) l.action) (instances_from l.kind.component 0 l.part-items))
