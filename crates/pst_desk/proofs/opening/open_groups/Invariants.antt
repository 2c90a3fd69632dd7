use Rattle.std.proofs.Common.{◌≡◌, ◌≤◌, ◌*◌, ◌-◌, length}
use Rattle.pst_book.specs.Books.{with_trace}
use Rattle.pst_desk.specs.Turning.{OpensGroups}
use Rattle.pst_desk.proofs.opening.open_groups.Given as goal

abbrev pub invariant-groups : goal.invariant-groups
invariant-groups l = record {
  same : l.book ≡ with_trace l.fn.book l.book.trace;
  opens : OpensGroups l.fn.book.scenario l.fn.book.lanes l.fn.book.trace l.opened l.book.trace;
  few : l.opened ≤ length l.book.trace;
}

abbrev pub decreases-groups : goal.decreases-groups
decreases-groups l = 2 * length l.fn.book.scenario.actions - length l.book.trace
