use Rattle.std.proofs.Common.{◌≡◌, drop}
use Rattle.std.specs.Prelude.{flat_map}
use Rattle.std.specs.List.{enumerate_from, list_any}
use Rattle.pst_model.specs.ModelView.{view_model}
use Rattle.pst_known.specs.Known.{seen}
use Rattle.pst_slots.specs.Listed.{of_act}
use Rattle.pst_refusals.specs.Failing.{fails}
use Rattle.pst_refusals.proofs.acts.of_acts.Given as goal

abbrev pub invariant-loop-act : goal.invariant-loop-act
invariant-loop-act l = (l.number ≡ l.act-index) × (list_any (fails l.by_values) (flat_map (of_act (view_model l.scene.model.now) (seen l.scene)) (enumerate_from l.act-index (drop l.act-index l.scene.actions.now))) ≡ list_any (fails l.by_values) (flat_map (of_act (view_model l.scene.model.now) (seen l.scene)) (enumerate_from 0 l.scene.actions.now)))
