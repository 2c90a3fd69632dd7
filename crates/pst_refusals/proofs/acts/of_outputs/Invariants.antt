use Rattle.std.proofs.Common.{◌≡◌, drop}
use Rattle.std.specs.Prelude.{flat_map}
use Rattle.std.specs.List.{enumerate_from, list_any}
use Rattle.pst_model.specs.ModelView.{view_model}
use Rattle.pst_known.specs.Known.{seen}
use Rattle.pst_slots.specs.Listed.{of_output}
use Rattle.pst_refusals.specs.Failing.{fails}
use Rattle.pst_refusals.proofs.acts.of_outputs.Given as goal

abbrev pub invariant-loop-filled : goal.invariant-loop-filled
invariant-loop-filled l = (l.reference ≡ l.filled-index) × (list_any (fails l.by_values) (flat_map (of_output (view_model l.scene.model.now) (seen l.scene) l.number) (enumerate_from l.filled-index (drop l.filled-index l.references))) ≡ list_any (fails l.by_values) (flat_map (of_output (view_model l.scene.model.now) (seen l.scene) l.number) (enumerate_from 0 l.references)))
