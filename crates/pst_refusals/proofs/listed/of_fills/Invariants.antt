use Rattle.std.proofs.Common.{◌≡◌, drop}
use Rattle.std.specs.Prelude.{flat_map}
use Rattle.std.specs.List.{enumerate_from, list_any}
use Rattle.pst_model.specs.ModelView.{view_model}
use Rattle.pst_known.specs.Known.{seen}
use Rattle.pst_refusals.specs.Failing.{fails, of_numbered}
use Rattle.pst_refusals.proofs.listed.of_fills.Given as goal

abbrev pub invariant-loop-node : goal.invariant-loop-node
invariant-loop-node l = (l.n ≡ l.node-index) × (list_any (fails l.by_values) (flat_map (of_numbered (view_model l.scene.model.now) (seen l.scene)) (enumerate_from l.node-index (drop l.node-index l.scene.nodes.now))) ≡ list_any (fails l.by_values) (flat_map (of_numbered (view_model l.scene.model.now) (seen l.scene)) (enumerate_from 0 l.scene.nodes.now)))
