use Rattle.std.proofs.Common.{refl}
use Rattle.pst_sweep_replies.proofs.sweep.reply_to_table.Goals as goal

pub returns : goal.returns
returns c = record { found = c.in_ok-shown.shown.found; shows = c.in_ok-shown.ensures; answer_is = refl }
