use Rattle.std.proofs.Common.{◌∙◌, sym, ap}
use Rattle.std.specs.List.{list_any, enumerate_from}
use Rattle.pst_model.specs.ModelView.{view_model}
use Rattle.pst_known.specs.Known.{seen}
use Rattle.pst_refusals.specs.Failing.{fails}
use Rattle.pst_refusals.proofs.Without.{fills_alone}
use Rattle.pst_refusals.proofs.listed.of_nodes.Goals as goal

pub returns : goal.returns
returns c =
    c.in_ok-failed.ensures
    ∙ ap (list_any (fails c.args.by_values)) (sym (fills_alone (view_model c.args.scene.now.model.now) (sym c.has_inlines.ensures ∙ c.if-has_inlines.false) (seen c.args.scene.now) (enumerate_from 0 c.args.scene.now.nodes.now)))
