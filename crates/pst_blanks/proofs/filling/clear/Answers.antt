use Rattle.std.proofs.Common.{sym, subst}
use Rattle.pst_model.specs.ModelView.{view_model}
use Rattle.pst_blanks.specs.Blanks.{blank_of}
use Rattle.pst_blanks.specs.Placed.{Keeps}
use Rattle.pst_blanks.proofs.Cleared.{keeps_cleared}
use Rattle.pst_blanks.proofs.filling.clear.Goals as goal

pub returns-clause-keeps : goal.returns-clause-keeps
returns-clause-keeps c =
    let m = view_model c.args.model.now in
    subst (Keeps m c.args.scenario.now) (sym c.take.ensures) (keeps_cleared m (blank_of c.args.place.now) c.args.scenario.now)
