use Rattle.std.proofs.Common.{Bool, ◌∙◌, ◌≡◌, ◌<◌, ◌≤◌, ◌+◌, ℕ, List, length, Option, refl, subst, sym, ap, arith}
use Rattle.std.specs.Prelude.{MatchOption}
use Rattle.pst_scen.specs.declared.event.Event.{Event}
use Rattle.pst_book.specs.declared.book.Opened.{Opened}
use Rattle.pst_scen.specs.Trace.{Runs, IsWhole}
use Rattle.pst_scen.specs.Core.{Open, Step, Shut}
use Rattle.pst_book.specs.Books.{View, IsShut, DidOpen}
use Rattle.pst_book.specs.Kept.{view_at, run_by}
use Rattle.pst_book.specs.Ready.{AreReady}
use Rattle.pst_book.specs.Waiting.{IsWaiting}
use Rattle.pst_book.proofs.Events.{some_left}
use Rattle.pst_book.proofs.Ties.{put_back}
use Rattle.pst_book.proofs.Marking.{ready_after_start}
use Rattle.pst_book.proofs.Orderly.{first_by, none_by, started_by, count_by_both}
use Rattle.pst_book.proofs.Steps.{trace_fits, none_starts, open_room, goes_on, after_open, open_step, did_open}
use Rattle.pst_book.proofs.book.Book.open.Goals as goal

-- NOTHING STARTS

is_shut : (c : goal.After-from_residual) → IsShut c.args.self.now
is_shut c =
    subst (λ (v : View). IsShut v) c.self.view_is
    (none_starts c.core_is_by_rule.ensures c.rule_fits.ensures.fits c.self.inside.scenario.now (run_by c.self.inside.plan.now c.self.inside.run) c.self.invariant.kept c.members_are_those.ensures c.groups_are_whole.ensures.whole c.groups_are_whole.ensures.one c.whole_is_sound.ensures.inside
    (none_by c.core_is_by_rule.ensures c.whole_is_sound.ensures.cycle c.self.inside.scenario.now c.self.inside.plan.now c.self.inside.run c.self.invariant.kept c.self.invariant.waits c.in_err-group.ensures.found))

pub returns-in_err-group-clause-step : goal.returns-in_err-group-clause-step
returns-in_err-group-clause-step c =
    let same = view_at c.self.inside.scenario.now (run_by c.self.inside.plan.now c.self.inside.run) in
    subst (λ (o : Option Opened). MatchOption o ((same ≡ c.args.self.now) × IsShut c.args.self.now) (λ o. DidOpen c.args.self.now same o.first o.count)) (sym c.from_residual.ensures) (c.self.view_is, is_shut c)

pub returns-in_err-group-clause-core : goal.returns-in_err-group-clause-core
returns-in_err-group-clause-core c =
    subst (λ (v : View). Step v.scenario v.lanes v.trace Open c.self.inside.run.trace) c.self.view_is (Shut (subst (λ (v : View). IsShut v) (sym c.self.view_is) (is_shut c)))

pub returns-in_err-group-clause-goes_on : goal.returns-in_err-group-clause-goes_on
returns-in_err-group-clause-goes_on c =
    λ still some. absurd
    (let P : View → Type 0 = λ v. ((x : ℕ) → Runs v.trace x → ⊥) → (IsWhole v.scenario v.trace → ⊥) → IsShut v → ⊥ in
    subst P c.self.view_is
    (λ s w k. let q = some_left (length c.self.inside.scenario.now.actions) c.self.inside.run.trace w in
    goes_on c.core_is_by_rule.ensures c.rule_fits.ensures.fits c.self.inside.scenario.now (run_by c.self.inside.plan.now c.self.inside.run) c.self.invariant.kept c.rule_goes_on.ensures s q.0 q.1 q.2 k)
    still some (is_shut c))

pub returns-in_err-group-clause-fits : goal.returns-in_err-group-clause-fits
returns-in_err-group-clause-fits c = trace_fits c.core_is_by_rule.ensures c.rule_fits.ensures.fits c.self.inside.scenario.now (run_by c.self.inside.plan.now c.self.inside.run) c.self.invariant.kept

-- A GROUP STARTS

pub overflow_cast-first : goal.overflow_cast-first
overflow_cast-first c =
    let b = c.self.inside in
    let l = trace_fits c.core_is_by_rule.ensures c.rule_fits.ensures.fits b.scenario.now (run_by b.plan.now b.run) c.self.invariant.kept in
    let e : length c.trace.result.now ≡ length b.run.trace = ap (λ (t : List Event). length t) c.trace.ensures.value in
    let small : length b.scenario.now.actions < 2147483648 = c.self.invariant.kept.small in
    record { fits = let m : length c.trace.result.now < 4294967296 = omega (arith, l, e, small) in m }

pub start-requires-clause-room : goal.start-requires-clause-room
start-requires-clause-room c =
    let b = c.self.inside in
    let l = open_room c.core_is_by_rule.ensures c.rule_fits.ensures.fits b.scenario.now (run_by b.plan.now b.run) c.self.invariant.kept c.members_are_those.ensures c.groups_are_whole.ensures.whole c.groups_are_whole.ensures.one c.whole_is_sound.ensures.inside c.in_ok-group.group (first_by c.core_is_by_rule.ensures c.whole_is_sound.ensures.cycle c.self.inside.scenario.now c.self.inside.plan.now c.self.inside.run c.self.invariant.kept c.self.invariant.waits c.in_ok-group.group c.in_ok-group.ensures.found) in
    subst (λ n. length b.run.trace + n ≤ b.run.room) (sym (count_by_both c.self.inside.plan.now c.self.inside.run.plan c.self.invariant.waits c.in_ok-group.group c.count_members-count.result c.count_members-count.ensures)) l

pub invariant_of-self : goal.invariant_of-self
invariant_of-self c =
    let b = c.self.inside in
    let ready = c.candidate.ensures.ready in
    let one = put_back b.ready.len c.candidate.new.marks b.ready.items (ready.many ∙ sym c.self.invariant.ready.many) b.ready.ok.0 in
    record { kept = c.self.invariant.kept; waits = c.self.invariant.waits; ready = subst (λ (xs : List Bool). AreReady b.run.plan b.run.trace xs) (sym one) ready }

pub invariant_of-self-2 : goal.invariant_of-self-2
invariant_of-self-2 c =
    let b = c.self.inside in
    let e = c.start.ensures in
    let ready = c.candidate.ensures.ready in
    let one = put_back b.ready.len c.candidate.new.marks b.ready.items (ready.many ∙ sym c.self.invariant.ready.many) b.ready.ok.0 in
    record {
      kept = after_open c.core_is_by_rule.ensures c.rule_fits.ensures.fits b.scenario.now (run_by b.plan.now b.run) c.self.invariant.kept c.members_are_those.ensures c.groups_are_whole.ensures.whole c.groups_are_whole.ensures.one c.whole_is_sound.ensures.inside
          (run_by b.plan.now c.start.new.run) c.in_ok-group.group (first_by c.core_is_by_rule.ensures c.whole_is_sound.ensures.cycle c.self.inside.scenario.now c.self.inside.plan.now c.self.inside.run c.self.invariant.kept c.self.invariant.waits c.in_ok-group.group c.in_ok-group.ensures.found) (started_by c.self.inside.plan.now c.self.inside.run.plan c.self.invariant.waits c.self.inside.run.trace c.start.new.run.trace c.in_ok-group.group c.self.inside.run.lanes c.start.ensures.started) refl e.lanes e.room;
      waits = subst (IsWaiting b.plan.now) (sym e.plan) c.self.invariant.waits;
      ready = subst (λ (xs : List Bool). AreReady c.start.new.run.plan c.start.new.run.trace xs) (sym one)
          (ready_after_start b.run.plan c.start.new.run.plan b.run.trace c.start.new.run.trace _ e.started.idle c.candidate.new.marks e.plan e.started.new_is ready);
    }

pub returns-clause-step : goal.returns-clause-step
returns-clause-step c =
    let b = c.self.inside in
    let e = c.start.ensures in
    subst (λ (v : View). DidOpen v (view_at b.scenario.now (run_by b.plan.now c.start.new.run)) (length c.trace.result.now) c.count_members-count.result) c.self.view_is
    (did_open c.core_is_by_rule.ensures c.rule_fits.ensures.fits b.scenario.now (run_by b.plan.now b.run) c.self.invariant.kept c.members_are_those.ensures c.groups_are_whole.ensures.whole c.groups_are_whole.ensures.one c.whole_is_sound.ensures.inside
    (run_by b.plan.now c.start.new.run) c.in_ok-group.group (length c.trace.result.now) c.count_members-count.result (first_by c.core_is_by_rule.ensures c.whole_is_sound.ensures.cycle c.self.inside.scenario.now c.self.inside.plan.now c.self.inside.run c.self.invariant.kept c.self.invariant.waits c.in_ok-group.group c.in_ok-group.ensures.found) (started_by c.self.inside.plan.now c.self.inside.run.plan c.self.invariant.waits c.self.inside.run.trace c.start.new.run.trace c.in_ok-group.group c.self.inside.run.lanes c.start.ensures.started) refl e.lanes e.room
    (ap (λ (t : List Event). length t) c.trace.ensures.value) (count_by_both c.self.inside.plan.now c.self.inside.run.plan c.self.invariant.waits c.in_ok-group.group c.count_members-count.result c.count_members-count.ensures))

pub returns-clause-core : goal.returns-clause-core
returns-clause-core c =
    subst (λ (v : View). Step v.scenario v.lanes v.trace Open c.start.new.run.trace) c.self.view_is
    (open_step c.core_is_by_rule.ensures c.rule_fits.ensures.fits c.self.inside.scenario.now (run_by c.self.inside.plan.now c.self.inside.run) c.self.invariant.kept c.members_are_those.ensures c.groups_are_whole.ensures.whole c.groups_are_whole.ensures.one c.whole_is_sound.ensures.inside
    (run_by c.self.inside.plan.now c.start.new.run) c.in_ok-group.group (first_by c.core_is_by_rule.ensures c.whole_is_sound.ensures.cycle c.self.inside.scenario.now c.self.inside.plan.now c.self.inside.run c.self.invariant.kept c.self.invariant.waits c.in_ok-group.group c.in_ok-group.ensures.found) (started_by c.self.inside.plan.now c.self.inside.run.plan c.self.invariant.waits c.self.inside.run.trace c.start.new.run.trace c.in_ok-group.group c.self.inside.run.lanes c.start.ensures.started))

pub returns-clause-fits : goal.returns-clause-fits
returns-clause-fits c = trace_fits c.core_is_by_rule.ensures c.rule_fits.ensures.fits c.self.inside.scenario.now (run_by c.self.inside.plan.now c.start.new.run) (invariant_of-self-2 c).kept
