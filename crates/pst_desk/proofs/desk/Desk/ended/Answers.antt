use Rattle.std.proofs.Common.{◌≡◌, ◌∙◌, ◌<◌, ◌++◌, ◌∷◌, [], List, true, false, length, subst, sym, ap, inl, inr, arith, append-nil}
use Rattle.std.specs.Prelude.{None, Some}
use Rattle.std.proofs.lemmas.Bool.{OnTrue_at}
use Rattle.pst_scen.specs.declared.event.Event.{Event}
use Rattle.pst_scen.specs.declared.event.Event.TheVariants.{End}
use Rattle.pst_book.specs.Books.{View}
use Rattle.pst_post.specs.declared.view.Entry.{Entry}
use Rattle.pst_post.specs.Seats.{BookState}
use Rattle.pst_post.specs.Steps.{IsIdle, missed}
use Rattle.pst_post.specs.Views.{entry_at, IfGathered}
use Rattle.pst_desk.specs.Desks.{DeskView, AreTied}
use Rattle.pst_desk.specs.Ended.{DidEnd, DidNotEnd, IsReturned}
use Rattle.pst_desk.proofs.Named.{named_with, named_prefix, seat_after}
use Rattle.pst_desk.proofs.Ties.{entry_same, end_tie}
use Rattle.pst_desk.proofs.Collecting.{posted_is, out_is, idle_stays, returned, if_gathered}
use Rattle.pst_desk.proofs.desk.Desk.ended.Goals as goal

pub returns-then-not-collect-clause-collected : goal.returns-then-not-collect-clause-collected
returns-then-not-collect-clause-collected g c =
    let s = g.N.Name.scenario in
    let book = c.self.inside.book in
    let e = entry_at c.self.inside.seat.entries c.args.lane in
    let legal = c.prefixes_are_legal.ensures s g.N.Name.lanes book.trace c.self.invariant.2 in
    let starts = c.lanes_run_one.ensures.starts s g.N.Name.lanes book.trace legal c.args.lane c.running_on-running.result c.running_on-running.ensures in
    let posted = posted_is book.trace c.args.lane e c.running_on-running.result (c.self.invariant.3 c.args.lane c.requires.lane) starts in
    let out = out_is e c.running_on-running.result posted (λ idle. let both : false ≡ true = c.if-not-collect.ensures.idle idle in cc) in
    let entries = ap (λ (b : BookState). b.entries) c.if-not-collect.ensures.book in
    subst (λ (v : DeskView). DidNotEnd v (record { trace = book.trace; entries = c.collect.new.seat.entries; stopped = c.self.inside.stopped }) c.args.lane) c.self.view_is
    (inr (out.0, out.1, λ j. record { trace = book.trace; entries = entries j; stopped = c.self.inside.stopped }))

pub returns-then-not-collect-clause-gathered : goal.returns-then-not-collect-clause-gathered
returns-then-not-collect-clause-gathered g c =
    let s = g.N.Name.scenario in
    let book = c.self.inside.book in
    let seat = c.self.inside.seat in
    let e = entry_at seat.entries c.args.lane in
    let legal = c.prefixes_are_legal.ensures s g.N.Name.lanes book.trace c.self.invariant.2 in
    let starts = c.lanes_run_one.ensures.starts s g.N.Name.lanes book.trace legal c.args.lane c.running_on-running.result c.running_on-running.ensures in
    let posted = posted_is book.trace c.args.lane e c.running_on-running.result (c.self.invariant.3 c.args.lane c.requires.lane) starts in
    let table = ap (λ (b : BookState). b.table.words) c.self.invariant.1 in
    let wide = c.show_width.ensures in
    let inside : c.args.lane < length seat.entries = omega (arith, wide, table, c.requires.lanes, c.requires.lane) in
    let here = ap (λ (b : BookState). entry_at b.entries c.args.lane) c.if-not-collect.ensures.book ∙ entry_same seat.entries c.args.lane (missed e) inside in
    subst (λ (v : DeskView). IfGathered (entry_at v.entries c.args.lane).seat (IsReturned (entry_at c.collect.new.seat.entries c.args.lane))) c.self.view_is
    (if_gathered e.seat (λ p told. subst (λ (x : Entry). IsReturned x p) (sym here) (returned false e c.running_on-running.result p posted told)) c.if-not-collect.ensures.gathered)

pub invariant_of-self-in-Some : goal.invariant_of-self-in-Some
invariant_of-self-in-Some g c =
    let s = g.N.Name.scenario in
    let lanes = g.N.Name.lanes in
    let i = c.self.invariant in
    let book = c.self.inside.book in
    let seat = c.self.inside.seat in
    let act = c.in-Some.act in
    let legal = c.prefixes_are_legal.ensures s lanes book.trace i.2 in
    let starts = c.lanes_run_one.ensures.starts s lanes book.trace legal c.args.lane (Some act) c.in-Some.ensures in
    let table = ap (λ (b : BookState). b.table.words) i.1 in
    let wide = c.show_width.ensures in
    let inside : c.args.lane < length seat.entries = omega (arith, wide, table, c.requires.lanes, c.requires.lane) in
    let did = c.end-recorded.ensures.is.1 ((c.args.lane, c.in-Some.ensures.0), c.in-Some.ensures.1) in
    let new_is = OnTrue_at did c.end-recorded.ensures.yes in
    let named = named_with s g.N.Name.plan lanes book c.end-recorded.new.self (book.trace ++ End act ∷ []) i.0 new_is in
    let trace = ap (λ (v : View). v.trace) new_is in
    let entries = ap (λ (b : BookState). b.entries) c.if-not-collect.ensures.book in
    let tie = end_tie lanes book.trace seat.entries c.args.lane act inside (c.acts_start_once.ensures.one_lane s lanes book.trace legal) c.in-Some.ensures.0 starts i.3 in (
      named,
      seat_after g.N.Name.table seat c.collect.new.seat i.1 (ap (λ (b : BookState). b.table) c.if-not-collect.ensures.book),
      named_prefix s g.N.Name.plan lanes c.end-recorded.new.self c.trace-trace.result.now named c.trace-trace.ensures.value c.trace-trace.ensures.prefix,
      subst (λ (t : List Event). AreTied lanes t c.collect.new.seat.entries) (sym trace) (subst (λ (es : List Entry). AreTied lanes (book.trace ++ End act ∷ []) es) (sym entries) tie),
    )

pub invariant_of-self-in-None : goal.invariant_of-self-in-None
invariant_of-self-in-None g c =
    let s = g.N.Name.scenario in
    let lanes = g.N.Name.lanes in
    let i = c.self.invariant in
    let book = c.self.inside.book in
    let seat = c.self.inside.seat in
    let e = entry_at seat.entries c.args.lane in
    let legal = c.prefixes_are_legal.ensures s lanes book.trace i.2 in
    let starts = c.lanes_run_one.ensures.starts s lanes book.trace legal c.args.lane None c.in-None.ensures in
    let idle : IsIdle e = posted_is book.trace c.args.lane e None (i.3 c.args.lane c.requires.lane) starts ∙ append-nil e.ended in
    let entries = ap (λ (b : BookState). b.entries) c.if-not-collect.ensures.book ∙ idle_stays seat.entries c.args.lane idle in (
      i.0,
      seat_after g.N.Name.table seat c.collect.new.seat i.1 (ap (λ (b : BookState). b.table) c.if-not-collect.ensures.book),
      i.2,
      subst (λ (es : List Entry). AreTied lanes book.trace es) (sym entries) i.3,
    )

pub returns-in-Some-clause-collected : goal.returns-in-Some-clause-collected
returns-in-Some-clause-collected g c =
    let s = g.N.Name.scenario in
    let lanes = g.N.Name.lanes in
    let i = c.self.invariant in
    let book = c.self.inside.book in
    let seat = c.self.inside.seat in
    let act = c.in-Some.act in
    let e = entry_at seat.entries c.args.lane in
    let legal = c.prefixes_are_legal.ensures s lanes book.trace i.2 in
    let starts = c.lanes_run_one.ensures.starts s lanes book.trace legal c.args.lane (Some act) c.in-Some.ensures in
    let did = c.end-recorded.ensures.is.1 ((c.args.lane, c.in-Some.ensures.0), c.in-Some.ensures.1) in
    let trace = ap (λ (v : View). v.trace) (OnTrue_at did c.end-recorded.ensures.yes) in
    let entries = ap (λ (b : BookState). b.entries) c.if-not-collect.ensures.book in
    subst (λ (v : DeskView). DidEnd v (record { trace = c.end-recorded.new.self.trace; entries = c.collect.new.seat.entries; stopped = c.self.inside.stopped }) c.args.lane) c.self.view_is
    (record {
      action = act;
      posted = posted_is book.trace c.args.lane e (Some act) (i.3 c.args.lane c.requires.lane) starts;
      starts = c.in-Some.ensures.0;
      runs = c.in-Some.ensures.1;
      new_is = λ j. record { trace = trace j; entries = entries j; stopped = c.self.inside.stopped };
    })

pub returns-in-None-clause-collected : goal.returns-in-None-clause-collected
returns-in-None-clause-collected g c =
    let s = g.N.Name.scenario in
    let lanes = g.N.Name.lanes in
    let i = c.self.invariant in
    let book = c.self.inside.book in
    let seat = c.self.inside.seat in
    let e = entry_at seat.entries c.args.lane in
    let legal = c.prefixes_are_legal.ensures s lanes book.trace i.2 in
    let starts = c.lanes_run_one.ensures.starts s lanes book.trace legal c.args.lane None c.in-None.ensures in
    let idle : IsIdle e = posted_is book.trace c.args.lane e None (i.3 c.args.lane c.requires.lane) starts ∙ append-nil e.ended in
    let entries = ap (λ (b : BookState). b.entries) c.if-not-collect.ensures.book ∙ idle_stays seat.entries c.args.lane idle in
    subst (λ (v : DeskView). DidNotEnd v (record { trace = book.trace; entries = c.collect.new.seat.entries; stopped = c.self.inside.stopped }) c.args.lane) c.self.view_is
    (inl (idle, λ j. record { trace = book.trace; entries = entries j; stopped = c.self.inside.stopped }))
