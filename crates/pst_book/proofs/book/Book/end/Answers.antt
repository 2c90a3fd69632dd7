use Rattle.std.proofs.Common.{◌≡◌, ◌∙◌, ◌++◌, List, Bool, true, length, take, drop, ◌≤◌, ◌*◌, refl, sym, ap, subst, arith}
use Rattle.std.specs.Prelude.{IsTrue, ◌↔◌}
use Rattle.pst_scen.specs.Trace.{Runs}
use Rattle.pst_scen.specs.Plan.{Entries}
use Rattle.pst_book.specs.Kept.{run_by}
use Rattle.pst_book.specs.Ready.{AreReady}
use Rattle.pst_book.specs.Waiting.{IsWaiting}
use Rattle.pst_book.proofs.Ties.{put_back}
use Rattle.pst_book.proofs.Marking.{marks_of, ready_after_end}
use Rattle.pst_scen.specs.Core.{Close, Step, Idle}
use Rattle.pst_book.specs.Books.{View}
use Rattle.pst_book.proofs.Loops.{not_true}
use Rattle.pst_book.proofs.Steps.{trace_fits, end_room, after_end, end_step}
use Rattle.pst_book.proofs.book.Book.end.Goals as goal

pub end-requires-clause-room : goal.end-requires-clause-room
end-requires-clause-room c =
    end_room c.core_is_by_rule.ensures c.rule_fits.ensures.fits c.self.inside.scenario.now (run_by c.self.inside.plan.now c.self.inside.run) c.self.invariant.kept c.args.act (c.runs.ensures.is.0 c.if-not-runs.false)

pub invariant_of-self : goal.invariant_of-self
invariant_of-self c =
    let e = c.end.ensures in
    let b = c.self.inside in
    let run = c.end.new.self in
    let first = marks_of (λ (v : Entries). v.must) run.plan c.plan.result.now run.trace c.must_rows.result.now c.args.act _ b.ready.items c.mark_row.new.marks c.plan.ensures c.must_rows.ensures.is c.must_rows.ensures.size c.deref_mut.ensures.value c.mark_row.ensures in
    let one = put_back b.ready.len c.mark_row.new.marks b.ready.items first.many b.ready.ok.0 in
    let second = marks_of (λ (v : Entries). v.conflict) run.plan c.plan-2.result.now run.trace c.conflict_rows.result.now c.args.act _ c.mark_row.new.marks c.mark_row-2.new.marks c.plan-2.ensures c.conflict_rows.ensures.is c.conflict_rows.ensures.size (c.deref_mut-2.ensures.value ∙ one) c.mark_row-2.ensures in
    let between = take b.ready.len (c.mark_row.new.marks ++ drop (length c.mark_row.new.marks) b.ready.items) in
    let long : length between ≡ length c.mark_row.new.marks = ap (λ (xs : List Bool). length xs) one in
    let two = put_back b.ready.len c.mark_row-2.new.marks between (second.many ∙ sym long) (b.ready.ok.0 ∙ sym first.many ∙ sym long) in
    record {
      kept = after_end c.core_is_by_rule.ensures c.rule_fits.ensures.fits b.scenario.now (run_by b.plan.now b.run) c.self.invariant.kept (run_by b.plan.now run) c.args.act (c.runs.ensures.is.0 c.if-not-runs.false)
          (record { plan = refl; lanes = e.lanes; trace_is = e.trace; room = e.room });
      waits = subst (IsWaiting b.plan.now) (sym e.plan) c.self.invariant.waits;
      ready = subst (λ (xs : List Bool). AreReady run.plan run.trace xs) (sym two)
          (ready_after_end b.run.plan run.plan b.run.trace run.trace c.args.act b.ready.items c.mark_row.new.marks c.mark_row-2.new.marks e.plan e.trace c.self.invariant.ready first second);
    }

pub mark_row-requires-clause-a_in : goal.mark_row-requires-clause-a_in
mark_row-requires-clause-a_in c =
    let l = c.runs.ensures.inside c.if-not-runs.false in
    let size = c.must_rows.ensures.size in
    let e = ap (λ (v : Entries). length v.groups) (c.plan.ensures ∙ c.end.ensures.plan) in
    omega (arith, l, size, e)

pub mark_row-requires-2-clause-a_in : goal.mark_row-requires-2-clause-a_in
mark_row-requires-2-clause-a_in c =
    let l = c.runs.ensures.inside c.if-not-runs.false in
    let size = c.conflict_rows.ensures.size in
    let e = ap (λ (v : Entries). length v.groups) (c.plan-2.ensures ∙ c.end.ensures.plan) in
    omega (arith, l, size, e)

pub returns-clause-is : goal.returns-clause-is
returns-clause-is c = subst (λ (v : View). IsTrue true ↔ Runs v.trace c.args.act) c.self.view_is (λ t. c.runs.ensures.is.0 c.if-not-runs.false, λ r. refl)

pub returns-clause-core : goal.returns-clause-core
returns-clause-core c =
    let e = c.end.ensures in
    subst (λ (v : View). Step v.scenario v.lanes v.trace (Close c.args.act) c.end.new.self.trace) c.self.view_is
    (end_step c.core_is_by_rule.ensures c.rule_fits.ensures.fits c.self.inside.scenario.now (run_by c.self.inside.plan.now c.self.inside.run) c.self.invariant.kept (run_by c.self.inside.plan.now c.end.new.self) c.args.act (c.runs.ensures.is.0 c.if-not-runs.false)
    (record { plan = refl; lanes = e.lanes; trace_is = e.trace; room = e.room }))

pub returns-clause-fits : goal.returns-clause-fits
returns-clause-fits c = trace_fits c.core_is_by_rule.ensures c.rule_fits.ensures.fits c.self.inside.scenario.now (run_by c.self.inside.plan.now c.end.new.self) (invariant_of-self c).kept

pub returns-then-not-runs-clause-core : goal.returns-then-not-runs-clause-core
returns-then-not-runs-clause-core c =
    subst (λ (v : View). Step v.scenario v.lanes v.trace (Close c.args.act) v.trace) c.self.view_is
    (Idle c.args.act (not_true c.runs.result c.runs.ensures.is.1 c.if-not-runs.true))

pub returns-then-not-runs-clause-fits : goal.returns-then-not-runs-clause-fits
returns-then-not-runs-clause-fits c =
    subst (λ (v : View). length v.trace ≤ 2 * length v.scenario.actions) c.self.view_is (trace_fits c.core_is_by_rule.ensures c.rule_fits.ensures.fits c.self.inside.scenario.now (run_by c.self.inside.plan.now c.self.inside.run) c.self.invariant.kept)
