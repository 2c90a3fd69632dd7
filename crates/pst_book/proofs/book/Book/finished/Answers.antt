use Rattle.std.proofs.Common.{ℕ, ◌<◌, ◌∙◌, length, ap, subst}
use Rattle.std.specs.Prelude.{IsTrue, ◌↔◌}
use Rattle.pst_scen.specs.Trace.{Ended, IsWhole}
use Rattle.pst_scen.specs.Plan.{Entries}
use Rattle.pst_book.specs.Books.{View}
use Rattle.pst_book.proofs.book.Book.finished.Goals as goal

pub returns : goal.returns
returns c =
    let b = c.self.inside in
    subst (λ (v : View). IsTrue c.all_ended.result ↔ IsWhole v.scenario v.trace) c.self.view_is
    (subst (λ n. IsTrue c.all_ended.result ↔ ((a : ℕ) → a < n → Ended b.run.trace a)) (ap (λ (e : Entries). length e.groups) c.self.invariant.waits.is ∙ c.self.invariant.kept.plan.entries.many) c.all_ended.ensures)
