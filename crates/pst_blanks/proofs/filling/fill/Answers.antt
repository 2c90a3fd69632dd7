use Rattle.std.proofs.Common.{ap, sym, ◌∙◌}
use Rattle.std.proofs.lemmas.Result.{on_ok_weaker}
use Rattle.pst_model.specs.ModelView.{view_model}
use Rattle.pst_blanks.specs.Blanks.{blank_of}
use Rattle.pst_blanks.specs.Filling.{cleared}
use Rattle.pst_blanks.proofs.Cleared.{cleared_back}
use Rattle.pst_blanks.proofs.Puts.{keeps_either}
use Rattle.pst_blanks.proofs.filling.fill.Goals as goal

pub returns-clause-back : goal.returns-clause-back
returns-clause-back c =
    let m = view_model c.args.model.now in
    let b = blank_of c.args.place.now in
    on_ok_weaker c.put.result (λ h. sym (ap (cleared b) h ∙ cleared_back m c.args.option b c.args.scenario.now)) c.put.ensures.ok

pub returns-clause-keeps : goal.returns-clause-keeps
returns-clause-keeps c = keeps_either (view_model c.args.model.now) c.args.option (blank_of c.args.place.now) c.args.scenario.now c.put.new.scenario c.put.result c.put.ensures.ok c.put.ensures.err
