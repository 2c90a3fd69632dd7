use Rattle.pst_model.specs.ModelView.{view_model}
use Rattle.pst_model_answers.proofs.Runs.{run_replied}
use Rattle.pst_model_answers.proofs.run.reply_to_run.Goals as goal

pub show_run-requires-clause-sound : goal.show_run-requires-clause-sound
show_run-requires-clause-sound g c = c.requires.sound

pub show_run-requires-clause-types : goal.show_run-requires-clause-types
show_run-requires-clause-types g c = c.requires.types

pub show_run-requires-clause-links : goal.show_run-requires-clause-links
show_run-requires-clause-links g c = c.requires.links

pub show_run-requires-clause-planned : goal.show_run-requires-clause-planned
show_run-requires-clause-planned g c = c.requires.planned

pub show_run-requires-clause-small : goal.show_run-requires-clause-small
show_run-requires-clause-small g c = c.requires.small

pub returns : goal.returns
returns g c = run_replied c.args.names.now (view_model c.args.model.now) c.args.scenario.now c.args.plan.now _ c.in_ok-shown.shown c.reply_of.result c.in_ok-shown.ensures c.reply_of.ensures
