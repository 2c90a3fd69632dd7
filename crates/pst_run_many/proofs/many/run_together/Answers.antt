use Rattle.std.specs.Prelude.{◌≡◌, ℕ, ◌<◌, List, Option, IfSome, get_or, vec_len, length}
use Rattle.std.proofs.Common.{arith, sym, ap, ◌∙◌, subst, Vec, Global}
use Rattle.atomic_table.specs.Seated.{TableId}
use Rattle.pst_model.specs.declared.model.Model.{Model}
use Rattle.pst_model.specs.ModelView.{view_model}
use Rattle.pst_scen.specs.declared.event.Event.{Event}
use Rattle.pst_scen.specs.declared.scenario.Scenario.{Scenario}
use Rattle.pst_post.specs.declared.view.Entry.{Entry}
use Rattle.pst_post.specs.declared.view.SeatStatus.TheVariants.{Out}
use Rattle.pst_post.specs.Seats.{BookState}
use Rattle.pst_post.specs.Views.{entry_at}
use Rattle.pst_book.specs.Books.{View}
use Rattle.pst_lanes.specs.Lanes.{starts_on, ends_on}
use Rattle.pst_workers.specs.declared.crew.SeatedLane.{SeatedLane}
use Rattle.pst_workers.specs.declared.worker.Returned.{Returned}
use Rattle.pst_workers.specs.Told.{told}
use Rattle.pst_workers.specs.Worked.{Worked, Forwards}
use Rattle.pst_run_many.specs.Stops.{Came}
use Rattle.pst_run_many.proofs.Settling.{came_tied, not_out}
use Rattle.pst_run_many.proofs.many.run_together.Given.{Over}
use Rattle.pst_run_many.proofs.many.run_together.Goals as goal

abbrev gave : (g : Over) → Model → Scenario → ℕ → SeatedLane g.row.T.Denot → Returned g.row.N.Denot g.row.T.Denot → Type 0
gave g model s k m r = Worked (view_model model) s g.N.Name.table k (told g.T.Target.calls g.T.Target.faults m.lane) (told g.T.Target.calls g.T.Target.faults r.lane) r.seat r.stop r.leave

pub gather_all-first-requires-clause-each : goal.gather_all-first-requires-clause-each
gather_all-first-requires-clause-each g c =
    subst (λ (v : Vec (SeatedLane g.row.T.Denot) Global). Forwards (gave g c.args.job.now.model.now c.args.job.now.scenario.now) c.run_workers-all.result.items v.items) (sym c.of-was.ensures) c.run_workers-all.ensures.each

pub close-outstanding-requires-clause-home : goal.close-outstanding-requires-clause-home
close-outstanding-requires-clause-home g c = λ k h out.
    let words = ap (λ (t : TableId). t.words) c.requires.post.0 in
    let here : k < vec_len c.run_workers-all.result = omega (arith, h, words, c.requires.post.1, c.run_workers-all.ensures.count, c.requires.count) in
    let entries = ap (λ (b : BookState). b.entries) c.finish-book.ensures.seat in
    not_out (entry_at c.gather_all-first.new.desk.entries k) (c.gather_all-first.ensures.home k here) (sym (ap (λ (es : List Entry). (entry_at es k).seat) entries) ∙ out)

pub returns-clause-inside : goal.returns-clause-inside
returns-clause-inside g c =
    subst (λ (n : ℕ). IfSome c.gather_all-first.result (λ first. first.lane < n)) (c.run_workers-all.ensures.count ∙ c.requires.count) c.gather_all-first.ensures.inside

pub returns-clause-came : goal.returns-clause-came
returns-clause-came g c = λ k d e h.
    let m = view_model c.args.job.now.model.now in
    let s = c.args.job.now.scenario.now in
    let desk = c.gather_all-first.new.desk in
    let lanes = c.gather_all-first.new.lanes in
    let low : k < length lanes.items = omega (arith, h, c.run_workers-all.ensures.count, c.requires.count, c.gather_all-first.ensures.count, lanes.ok.0) in
    let trace = ap (λ (v : View). v.trace) c.finish-book.ensures.book in
    let came = subst (λ (v : Vec (SeatedLane g.row.T.Denot) Global). Came m s c.gather_all-first.result k (entry_at desk.entries k).posted (entry_at desk.entries k).ended (told g.T.Target.calls g.T.Target.faults (get_or v.items k d).lane) (told g.T.Target.calls g.T.Target.faults (get_or lanes.items k e)))
    c.of-was.ensures (c.gather_all-first.ensures.came k e d low) in
    subst (λ (es : List Event). Came m s c.gather_all-first.result k (starts_on k es) (ends_on k es) (told g.T.Target.calls g.T.Target.faults (get_or c.args.crew.items k d).lane) (told g.T.Target.calls g.T.Target.faults (get_or lanes.items k e))) (sym trace)
    (came_tied m s c.gather_all-first.result desk.trace k (entry_at desk.entries k) (told g.T.Target.calls g.T.Target.faults (get_or c.args.crew.items k d).lane) (told g.T.Target.calls g.T.Target.faults (get_or lanes.items k e)) (c.finish-book.ensures.tied k h) came)
