use Rattle.pst_model.specs.ModelView.{view_model}
use Rattle.pst_place_answers.proofs.Showing.{no_header}
use Rattle.pst_place_answers.proofs.show.header_of.Goals as goal

pub unreachable-requires : goal.unreachable-requires
unreachable-requires c = no_header (view_model c.args.model.now) c.args.scenario.now _ _ c.in-None.is c.in_ok-found.ensures
