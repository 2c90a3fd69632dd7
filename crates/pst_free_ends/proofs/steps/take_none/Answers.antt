use Rattle.std.proofs.Common.{refl}
use Rattle.pst_free_ends.proofs.Moves.{nothing_moves}
use Rattle.pst_free_ends.proofs.steps.take_none.Goals as goal

pub returns : goal.returns
returns c = λ to acts are turn ahead. nothing_moves c.args._need.now acts turn ahead to c.args._sources.now _ c.requires.stream c.requires.writer refl refl refl are
