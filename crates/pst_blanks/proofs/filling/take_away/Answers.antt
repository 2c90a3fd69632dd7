use Rattle.std.proofs.Common.{sym, arith}
use Rattle.pst_blanks.specs.Blanks.{read_blank}
use Rattle.pst_blanks.specs.Filling.{act_cleared}
use Rattle.pst_blanks.proofs.Alters.{alter_past, set_like}
use Rattle.pst_blanks.proofs.filling.take_away.Goals as goal

pub returns-then-act-len : goal.returns-then-act-len
returns-then-act-len c = sym (alter_past (act_cleared (read_blank c.args.blank)) c.args.act c.args.acts.now.items (omega arith))

pub returns : goal.returns
returns c = set_like (act_cleared (read_blank c.args.blank)) c.args.act c.args.acts.now.items c.index_mut.result.now _ (omega arith) c.index_mut.ensures.value c.clear_act.ensures
