use Rattle.pst_sound_model.proofs.ActionsSound.{actions_named}
use Rattle.pst_sound_model.proofs.sound_expressions_laws.action_constraints_are_named.Goals as goal

pub returns : goal.returns
returns c = actions_named
