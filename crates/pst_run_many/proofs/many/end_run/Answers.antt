use Rattle.std.specs.Prelude.{◌≡◌, ℕ, ◌<◌, List, Option, None, Some, Err, IfSome, length}
use Rattle.std.proofs.Common.{arith, refl, sym, ap, ◌∙◌, subst}
use Rattle.pst_model.specs.ModelView.{view_model}
use Rattle.pst_exec.specs.declared.ending.RunEnd.{RunEnd}
use Rattle.pst_workers.specs.Told.{Told, told}
use Rattle.pst_run_many.specs.declared.stop.LaneStop.{LaneStop}
use Rattle.pst_run_many.specs.Many.{RunsMany}
use Rattle.pst_run_many.proofs.Endings.{EachCame, all_at, all_finished, end_whole, end_stopped}
use Rattle.pst_run_many.proofs.many.end_run.Goals as goal

pub returns-in-Some-clause-runs : goal.returns-in-Some-clause-runs
returns-in-Some-clause-runs g c = λ before after came same.
    let b = c.args.book in
    let m = view_model c.args.job.now.model.now in
    let s = c.args.job.now.scenario.now in
    let tell = told g.T.Target.calls g.T.Target.faults in
    let stop = c.in-Some.stop in
    let seen = c.trace-stopped.ensures in
    let each = subst (λ (o : Option LaneStop). EachCame tell m s o b.trace before c.args.lanes.now) c.in-Some.is came in
    let inside : stop.lane < b.lanes = subst (λ (o : Option LaneStop). IfSome o (λ (x : LaneStop). x.lane < b.lanes)) c.in-Some.is c.requires.inside in
    subst (λ (e : RunEnd). RunsMany m s b.plan b.lanes before after (Err e)) (sym c.end_at-told.ensures)
    (end_stopped m s b b c.trace-stopped.result.now before after stop c.prefixes_are_legal.ensures c.requires.of refl seen.value seen.core seen.prefix inside
    (all_at tell m s b.lanes (Some stop) b.trace before after c.args.lanes.now c.requires.lanes each same))

pub returns-in-Ok-clause-runs : goal.returns-in-Ok-clause-runs
returns-in-Ok-clause-runs g c = λ before after came same.
    let b = c.args.book in
    let new = c.finish_run-finished.new.book in
    let m = view_model c.args.job.now.model.now in
    let s = c.args.job.now.scenario.now in
    let tell = told g.T.Target.calls g.T.Target.faults in
    let seen = c.trace-ended.ensures in
    let f = c.in-Ok.ensures in
    let many = c.requires.lanes in
    let each = subst (λ (o : Option LaneStop). EachCame tell m s o b.trace before c.args.lanes.now) c.in-None.is came in
    end_whole m s b new c.trace-ended.result.now before after c.requires.of f.goes_on.same seen.value seen.core seen.prefix f.whole (λ k h. f.idle k (omega (arith, many, h)))
    (all_finished tell m s b new b.lanes None before after c.args.lanes.now c.finish_run-finished.new.lanes many f.count each f.came same)

pub returns-in-Err-clause-runs : goal.returns-in-Err-clause-runs
returns-in-Err-clause-runs g c = λ before after came same.
    let b = c.args.book in
    let new = c.finish_run-finished.new.book in
    let m = view_model c.args.job.now.model.now in
    let s = c.args.job.now.scenario.now in
    let tell = told g.T.Target.calls g.T.Target.faults in
    let stop = c.in-Err.stop in
    let seen = c.trace-ended.ensures in
    let f = c.in-Err.ensures in
    let many = c.requires.lanes in
    let low = f.inside in
    let each = subst (λ (o : Option LaneStop). EachCame tell m s o b.trace before c.args.lanes.now) c.in-None.is came in
    subst (λ (e : RunEnd). RunsMany m s b.plan b.lanes before after (Err e)) (sym c.end_at-found.ensures)
    (end_stopped m s b new c.trace-ended.result.now before after stop c.prefixes_are_legal.ensures c.requires.of f.goes_on.same seen.value seen.core seen.prefix (omega (arith, many, low))
    (all_finished tell m s b new b.lanes (Some stop) before after c.args.lanes.now c.finish_run-finished.new.lanes many f.count each f.came same))
