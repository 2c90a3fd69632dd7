use Rattle.std.proofs.Common.{ℕ, ◌<◌, List, subst}
use Rattle.pst_scen.specs.declared.event.Event.{Event}
use Rattle.pst_scen.specs.Trace.{StartsOn, Prefix}
use Rattle.pst_run_many.proofs.Finishing.{nothing_runs, opens}
use Rattle.pst_run_many.proofs.alone.open_next.Goals as goal

pub returns-clause-opens : goal.returns-clause-opens
returns-clause-opens c =
    let b = c.args.book.now in
    let seen = c.trace-trace.ensures in
    let legal = c.prefixes_are_legal.ensures b.scenario b.lanes b.trace (subst (λ (es : List Event). Prefix b.scenario b.lanes es) seen.value seen.prefix) in
    let inside = subst (λ (es : List Event). (a lane : ℕ) → StartsOn es a lane → lane < b.lanes) seen.value seen.lanes in
    opens c.open-opened.result b c.open-opened.new.self (c.acts_start_once.ensures.begun b.scenario b.lanes b.trace legal) (nothing_runs b.trace b.lanes inside c.requires.idle) c.requires.left c.open-opened.ensures.step c.open-opened.ensures.goes_on
