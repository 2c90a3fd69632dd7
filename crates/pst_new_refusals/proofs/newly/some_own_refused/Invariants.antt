use Rattle.std.proofs.Common.{◌≡◌, drop}
use Rattle.std.specs.List.{list_any}
use Rattle.pst_model.specs.ModelView.{view_model}
use Rattle.pst_known.specs.Known.{seen}
use Rattle.pst_refusals.specs.Answers.{StandEarlier}
use Rattle.pst_new_refusals.specs.Newly.{is_own_refused}
use Rattle.pst_new_refusals.proofs.newly.some_own_refused.Given as goal

abbrev pub invariant-loop-act : goal.invariant-loop-act
invariant-loop-act l = StandEarlier l.scene.nodes.now → list_any (is_own_refused (view_model l.scene.model.now) (seen l.scene)) (drop l.act-index l.fresh) ≡ list_any (is_own_refused (view_model l.scene.model.now) (seen l.scene)) l.fresh
