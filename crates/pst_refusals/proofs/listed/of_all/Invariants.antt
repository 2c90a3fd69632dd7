use Rattle.std.proofs.Common.{◌≡◌, drop}
use Rattle.std.specs.Prelude.{flat_map}
use Rattle.std.specs.List.{enumerate_from, list_any}
use Rattle.pst_model.specs.ModelView.{view_model}
use Rattle.pst_known.specs.Known.{seen}
use Rattle.pst_slots.specs.Listed.{of_node}
use Rattle.pst_refusals.specs.Failing.{fails}
use Rattle.pst_refusals.proofs.listed.of_all.Given as goal

abbrev pub invariant-loop-node : goal.invariant-loop-node
invariant-loop-node l = (l.n ≡ l.node-index) × (list_any (fails l.by_values) (flat_map (of_node (view_model l.scene.model.now) (seen l.scene)) (enumerate_from l.node-index (drop l.node-index l.scene.nodes.now))) ≡ list_any (fails l.by_values) (flat_map (of_node (view_model l.scene.model.now) (seen l.scene)) (enumerate_from 0 l.scene.nodes.now)))
