use Rattle.std.proofs.Common.{sym, ◌∙◌}
use Rattle.pst_search.proofs.Looks.{next_options, next_whole}
use Rattle.pst_search.proofs.looking.shown_at.Goals as goal

pub returns-in-Options : goal.returns-in-Options
returns-in-Options c = next_options c.args.lists.now c.in-Options.count (sym c.next.ensures ∙ c.in-Options.is)

pub returns-in-Whole : goal.returns-in-Whole
returns-in-Whole c = next_whole c.args.lists.now (sym c.next.ensures ∙ c.in-Whole.is)

pub returns-in-Dead : goal.returns-in-Dead
returns-in-Dead c = sym c.next.ensures ∙ c.in-Dead.is
