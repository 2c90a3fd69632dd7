use Rattle.std.proofs.Common.{sym, subst}
use Rattle.pst_scen.specs.Plan.{AreGroupsNumbered}
use Rattle.pst_book.proofs.waiting.waiting.Goals as goal

pub of_rows_in-requires-clause-numbered : goal.of_rows_in-requires-clause-numbered
of_rows_in-requires-clause-numbered c = subst AreGroupsNumbered (sym c.in_ok-groups.ensures) c.len-count.ensures.numbered
