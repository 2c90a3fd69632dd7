use Rattle.pst_sound_model.proofs.Arms.{arms_apart}
use Rattle.pst_sound_model.proofs.sound_activities_laws.arms_are_apart.Goals as goal

pub returns : goal.returns
returns c = arms_apart
