use Rattle.std.proofs.Common.{◌≡◌, ◌∙◌, ℕ, List, Bool, length, get_or, false, ap, sym, subst, arith}
use Rattle.pst_book.proofs.Loops.{not_true}
use Rattle.pst_programs.specs.declared.program.Instruction.TheVariants.{Run}
use Rattle.pst_programs.specs.Machine.{IsAt}
use Rattle.pst_static.specs.Runs.{state_of}
use Rattle.pst_static.proofs.Tied.{many, run_in, runs_there, no_end_none, no_end_fresh}
use Rattle.pst_static.proofs.run.end.Goals as goal

pub run_at-requires : goal.run_at-requires
run_at-requires c = ap (λ (v : List ℕ). length v) c.deref.ensures.value ∙ many c.args.plan.now c.args.programs.now c.args.run.now c.requires

pub returns-in-None-clause-impossible : goal.returns-in-None-clause-impossible
returns-in-None-clause-impossible c =
    no_end_none c.args.plan.now c.args.programs.now (state_of c.args.run.now) c.args.lane
    (λ a at. c.in-None.ensures.at a (subst (λ (v : List ℕ). IsAt c.args.programs.now v c.args.lane (Run a)) (sym c.deref.ensures.value) at))

pub is_set-requires : goal.is_set-requires
is_set-requires c =
    let l = run_in c.args.plan.now c.args.programs.now c.args.run.now c.requires c.programs_are_safe.ensures.safe c.args.lane c.in-Some.action (subst (λ (v : List ℕ). IsAt c.args.programs.now v c.args.lane (Run c.in-Some.action)) c.deref.ensures.value c.in-Some.ensures.at) in
    let n = c.requires.many_started in
    let e : length c.deref-in-Some.result.now ≡ length c.args.run.now.started.items = ap (λ (v : List Bool). length v) c.deref-in-Some.ensures.value in
    omega (arith, l, n, e)

pub finish-requires-clause-runs : goal.finish-requires-clause-runs
finish-requires-clause-runs c =
    let at = (subst (λ (v : List ℕ). IsAt c.args.programs.now v c.args.lane (Run c.in-Some.action)) c.deref.ensures.value c.in-Some.ensures.at) in
    let l = run_in c.args.plan.now c.args.programs.now c.args.run.now c.requires c.programs_are_safe.ensures.safe c.args.lane c.in-Some.action at in
    let set = c.is_set.ensures.0 c.if-is_set.true in
    runs_there c.args.plan.now c.args.programs.now c.args.run.now c.requires c.whole_is_sound.ensures.clash c.whole_is_sound.ensures.inside c.members_are_those.ensures c.groups_are_whole.ensures.whole c.programs_are_safe.ensures.safe c.args.lane c.in-Some.action at
    ((c.requires.started_is c.in-Some.action l).0 (ap (λ (v : List Bool). get_or v c.in-Some.action false) (sym c.deref-in-Some.ensures.value) ∙ set))

pub returns-else-is_set-clause-impossible : goal.returns-else-is_set-clause-impossible
returns-else-is_set-clause-impossible c =
    let at = (subst (λ (v : List ℕ). IsAt c.args.programs.now v c.args.lane (Run c.in-Some.action)) c.deref.ensures.value c.in-Some.ensures.at) in
    let l = run_in c.args.plan.now c.args.programs.now c.args.run.now c.requires c.programs_are_safe.ensures.safe c.args.lane c.in-Some.action at in
    no_end_fresh c.args.plan.now c.args.programs.now (state_of c.args.run.now) c.args.lane c.in-Some.action at
    (λ h. not_true c.is_set.result c.is_set.ensures.1 c.if-is_set.false
    (ap (λ (v : List Bool). get_or v c.in-Some.action false) c.deref-in-Some.ensures.value ∙ (c.requires.started_is c.in-Some.action l).1 h))
