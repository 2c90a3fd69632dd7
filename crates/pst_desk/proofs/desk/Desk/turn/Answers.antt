use Rattle.std.proofs.Common.{◌∙◌, ◌<◌, ℕ, subst, ap}
use Rattle.std.specs.Prelude.{None}
use Rattle.atomic_table.specs.Seated.{TableId}
use Rattle.pst_book.specs.Books.{View, IsShut}
use Rattle.pst_desk.specs.Desks.{DeskView}
use Rattle.pst_desk.specs.Turning.{AreHeld, ArePosted}
use Rattle.pst_desk.proofs.Openings.{keeps}
use Rattle.pst_desk.proofs.Ties.{due, turned_tie}
use Rattle.pst_desk.proofs.Named.{named_after, named_prefix, seat_after}
use Rattle.pst_desk.proofs.desk.Desk.turn.Goals as goal

pub post_all-posted-requires-clause-due : goal.post_all-posted-requires-clause-due
post_all-posted-requires-clause-due g c =
    let s = g.N.Name.scenario in
    let lanes = g.N.Name.lanes in
    let i = c.self.invariant in
    let book = c.self.inside.book in
    let legal = c.prefixes_are_legal.ensures s lanes book.trace i.2 in
    let kept = keeps book.scenario book.lanes book.trace c.open_all-opened.result c.open_all-opened.new.book.trace c.open_all-opened.ensures.opens (c.acts_start_once.ensures.begun s lanes book.trace legal) in
    let words = ap (λ (z : TableId). z.words) c.requires.post ∙ c.requires.lanes in
    let held = subst (λ (n : ℕ). AreHeld n book.trace c.held_lanes-held.result) (c.lanes.ensures.lanes ∙ words) c.held_lanes-held.ensures in
    λ lane l. due lanes book.trace c.open_all-opened.new.book.trace c.self.inside.seat.entries c.held_lanes-held.result kept i.3 held
    (λ k idle. c.lanes_run_one.ensures.starts s lanes book.trace legal k None idle) lane (subst (λ (n : ℕ). lane < n) words l)

pub invariant_of-self : goal.invariant_of-self
invariant_of-self g c =
    let s = g.N.Name.scenario in
    let lanes = g.N.Name.lanes in
    let i = c.self.invariant in
    let book = c.self.inside.book in
    let now = c.open_all-opened.new.book in
    let legal = c.prefixes_are_legal.ensures s lanes book.trace i.2 in
    let kept = keeps book.scenario book.lanes book.trace c.open_all-opened.result now.trace c.open_all-opened.ensures.opens (c.acts_start_once.ensures.begun s lanes book.trace legal) in
    let words = ap (λ (z : TableId). z.words) c.requires.post ∙ c.requires.lanes in
    let named = named_after s g.N.Name.plan lanes book now i.0 c.open_all-opened.ensures.same in
    let posted = subst (λ (n : ℕ). ArePosted n now.trace c.self.inside.seat.entries c.post_all-posted.new.seat.entries) words c.post_all-posted.ensures.posted in (
      named,
      seat_after g.N.Name.table c.self.inside.seat c.post_all-posted.new.seat i.1 c.post_all-posted.ensures.table,
      named_prefix s g.N.Name.plan lanes now c.trace-trace.result.now named c.trace-trace.ensures.value c.trace-trace.ensures.prefix,
      turned_tie lanes book.trace now.trace c.self.inside.seat.entries c.post_all-posted.new.seat.entries kept i.3 posted,
    )

pub returns-clause-shut : goal.returns-clause-shut
returns-clause-shut g c =
    λ goes. let named = named_after g.N.Name.scenario g.N.Name.plan g.N.Name.lanes c.self.inside.book c.open_all-opened.new.book c.self.invariant.0 c.open_all-opened.ensures.same in
    subst (λ (v : View). IsShut v) named (c.open_all-opened.ensures.shut (ap (λ (v : DeskView). v.stopped) c.self.view_is ∙ goes))
