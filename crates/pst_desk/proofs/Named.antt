-- Books and seats of one name.
use Rattle.std.proofs.Common.{◌≡◌, ℕ, List, ap, sym, subst, ◌∙◌}
use Rattle.atomic_table.specs.Seated.{TableId}
use Rattle.pst_scen.specs.declared.event.Event.{Event}
use Rattle.pst_scen.specs.declared.scenario.Scenario.{Scenario}
use Rattle.pst_scen.specs.Plan.{Entries}
use Rattle.pst_scen.specs.Trace.{Prefix}
use Rattle.pst_post.specs.Seats.{BookState}
use Rattle.pst_book.specs.Books.{View, with_trace}
use Rattle.pst_desk.specs.Desks.{book_of, seat_of}

pub named_after : (s : Scenario) (plan : Entries) (lanes : ℕ) (old new : View) → old ≡ book_of s plan lanes old.trace → new ≡ with_trace old new.trace → new ≡ book_of s plan lanes new.trace
named_after s plan lanes old new e f = f ∙ (λ j. with_trace (e j) new.trace)

-- the same where the trace is known
pub named_with : (s : Scenario) (plan : Entries) (lanes : ℕ) (old new : View) (t : List Event) → old ≡ book_of s plan lanes old.trace → new ≡ with_trace old t → new ≡ book_of s plan lanes new.trace
named_with s plan lanes old new t e f = named_after s plan lanes old new e (f ∙ (λ j. with_trace old (sym (ap (λ (v : View). v.trace) f) j)))

pub named_prefix : (s : Scenario) (plan : Entries) (lanes : ℕ) (b : View) (t : List Event) → b ≡ book_of s plan lanes b.trace → t ≡ b.trace → Prefix b.scenario b.lanes t → Prefix s lanes b.trace
named_prefix s plan lanes b t e v p = subst (λ u. Prefix s lanes u) v (subst (λ (w : View). Prefix w.scenario w.lanes t) e p)

pub seat_after : (table : TableId) (old new : BookState) → old ≡ seat_of table old.entries → new.table ≡ old.table → new ≡ seat_of table new.entries
seat_after table old new e t = λ j. record { table = (t ∙ ap (λ (s : BookState). s.table) e) j; entries = new.entries }
