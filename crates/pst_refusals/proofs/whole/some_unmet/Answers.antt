use Rattle.std.proofs.lemmas.Result.{IfOk-weaker}
use Rattle.pst_model.specs.ModelView.{view_model}
use Rattle.pst_known.specs.Known.{seen}
use Rattle.pst_refusals.proofs.Told.{told_unmet}
use Rattle.pst_refusals.proofs.whole.some_unmet.Goals as goal

pub returns : goal.returns
returns c = IfOk-weaker c.some_fails.result _ _ (λ r e. told_unmet (view_model c.args.scene.now.model.now) (seen c.args.scene.now) c.args.scene.now.earlier r e) c.some_fails.ensures
