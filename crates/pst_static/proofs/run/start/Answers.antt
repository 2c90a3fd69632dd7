use Rattle.std.proofs.Common.{◌+◌, ◌≤◌, ◌∙◌, ℕ, List, length, ap, subst, sym, arith}
use Rattle.std.specs.Prelude.{vec_capacity}
use Rattle.pst_scen.specs.Plan.{members}
use Rattle.pst_static.specs.Standing.{HasBegun}
use Rattle.pst_static.specs.Taking.{IsTaken}
use Rattle.pst_static.proofs.Tied.{many, run_in, begin_room, begun_on}
use Rattle.pst_static.proofs.run.start.Goals as goal

pub group-group-requires : goal.group-group-requires
group-group-requires c = run_in c.args.plan.now c.args.programs.now c.args.run.now c.requires.run c.programs_are_safe.ensures.safe c.args.lane c.args.action c.requires.at

pub start_members-requires-clause-group_in : goal.start_members-requires-clause-group_in
start_members-requires-clause-group_in c =
    let l = run_in c.args.plan.now c.args.programs.now c.args.run.now c.requires.run c.programs_are_safe.ensures.safe c.args.lane c.args.action c.requires.at in
    let k = c.group-group.ensures.least in
    omega (arith, l, k)

pub start_members-requires-clause-many : goal.start_members-requires-clause-many
start_members-requires-clause-many c = ap (λ (v : List ℕ). length v) c.deref-2.ensures.value ∙ many c.args.plan.now c.args.programs.now c.args.run.now c.requires.run

pub start_members-requires-clause-room : goal.start_members-requires-clause-room
start_members-requires-clause-room c =
    subst (λ g. length c.args.run.now.trace.items + length (members c.args.plan.now.groups g) ≤ vec_capacity c.args.run.now.trace) (sym c.group-group.ensures.is)
    (begin_room c.args.plan.now c.args.programs.now c.args.run.now c.requires.run c.whole_is_sound.ensures.clash c.whole_is_sound.ensures.inside c.members_are_those.ensures c.groups_are_whole.ensures.whole c.programs_are_safe.ensures.safe
    c.machine_is_safe.ensures.prefix c.prefix_is_by_rule.ensures c.rule_fits.ensures.fits c.args.lane c.args.action c.requires.at c.requires.ready)

pub returns : goal.returns
returns c =
    let p = c.args.plan.now in
    let programs = c.args.programs.now in
    let old = c.args.run.now in
    let trace = c.start_members.new.trace.items in
    let started = c.start_members.new.started.items in
    let group = c.group-group.result in
    let taken = subst (λ g. IsTaken p g old.started.items started) c.group-group.ensures.is c.start_members.ensures.started in
    let begun = subst (λ g. HasBegun programs old.places.items (members p.groups g) old.trace.items trace) c.group-group.ensures.is
    (subst (λ (v : List ℕ). HasBegun programs v (members p.groups group) old.trace.items trace) c.deref-2.ensures.value c.start_members.ensures.begun) in
    let r = begun_on c.args.plan.now c.args.programs.now c.args.run.now c.requires.run c.members_are_those.ensures c.args.lane c.args.action trace started (vec_capacity c.start_members.new.trace) c.requires.at c.requires.ready c.start_members.ensures.many taken begun c.start_members.ensures.capacity in
    record { run = r.1; step = r.0 }
