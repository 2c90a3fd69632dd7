use Rattle.std.proofs.Common.{subst}
use Rattle.pst_model.specs.ModelView.{view_model}
use Rattle.pst_model.specs.Sound.{IsSound}
use Rattle.pst_list_walk.proofs.walk.ListWalk.model_is_sound.Goals as goal

pub returns : goal.returns
returns c = subst (λ k. IsSound (view_model k.model)) c.self.view_is c.self.invariant.sound
