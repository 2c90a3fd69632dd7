use Rattle.std.proofs.Common.{◌≡◌, drop}
use Rattle.std.specs.List.{list_any}
use Rattle.pst_model.specs.ModelView.{view_model}
use Rattle.pst_known.specs.Known.{seen}
use Rattle.pst_new_refusals.specs.Newly.{is_act_refused}
use Rattle.pst_new_refusals.proofs.newly.some_new_refused.Given as goal

abbrev pub invariant-loop-act : goal.invariant-loop-act
invariant-loop-act l = list_any (is_act_refused (view_model l.scene.model.now) (seen l.scene)) (drop l.act-index l.fresh) ≡ list_any (is_act_refused (view_model l.scene.model.now) (seen l.scene)) l.fresh
