use Rattle.std.proofs.Common.{◌≡◌, drop}
use Rattle.std.specs.List.{list_any}
use Rattle.pst_model.specs.ModelView.{view_model}
use Rattle.pst_known.specs.Known.{seen}
use Rattle.pst_new_refusals.specs.Newly.{is_pool_refused}
use Rattle.pst_new_refusals.proofs.newly.some_pool_refused.Given as goal

abbrev pub invariant-loop-filled : goal.invariant-loop-filled
invariant-loop-filled l = list_any (is_pool_refused (view_model l.scene.model.now) (seen l.scene)) (drop l.filled-index l.references) ≡ list_any (is_pool_refused (view_model l.scene.model.now) (seen l.scene)) l.references
