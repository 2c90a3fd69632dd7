-- Where a step of a body runs.
use Rattle.pst_model.specs.ModelView.{view_model}
use Rattle.pst_legal.specs.Body.{Place}
use Rattle.pst_body.specs.declared.site.Site.{Site}
use Rattle.pst_body.specs.declared.turns.Turns.{Turns}
use Rattle.pst_body.specs.Turns.{indices_of}

abbrev pub place_of : Site → Turns → Place
place_of site turns = record {
  ranges = site.ranges.now;
  model = view_model site.model.now;
  scenario = site.scenario.now;
  number = site.number;
  act = site.act.now;
  indices = indices_of turns;
}
