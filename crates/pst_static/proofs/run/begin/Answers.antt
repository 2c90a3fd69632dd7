use Rattle.std.proofs.Common.{◌∙◌, ℕ, List, Bool, length, ap, sym, subst, arith}
use Rattle.pst_book.proofs.Loops.{not_true}
use Rattle.pst_programs.specs.declared.program.Instruction.TheVariants.{Run}
use Rattle.pst_programs.specs.Machine.{IsAt}
use Rattle.pst_static.specs.Runs.{state_of}
use Rattle.pst_static.specs.Standing.{AllCanJoin}
use Rattle.pst_static.proofs.Tied.{many, run_in, no_begin_none, no_begin_all}
use Rattle.pst_static.proofs.run.begin.Goals as goal

pub run_at-requires : goal.run_at-requires
run_at-requires c = ap (λ (v : List ℕ). length v) c.deref.ensures.value ∙ many c.args.plan.now c.args.programs.now c.args.run.now c.requires

pub returns-in-None-clause-impossible : goal.returns-in-None-clause-impossible
returns-in-None-clause-impossible c =
    no_begin_none c.args.plan.now c.args.programs.now (state_of c.args.run.now) c.args.lane
    (λ a at. c.in-None.ensures.at a (subst (λ (v : List ℕ). IsAt c.args.programs.now v c.args.lane (Run a)) (sym c.deref.ensures.value) at))

pub group-group-requires : goal.group-group-requires
group-group-requires c =
    run_in c.args.plan.now c.args.programs.now c.args.run.now c.requires c.programs_are_safe.ensures.safe c.args.lane c.in-Some.action (subst (λ (v : List ℕ). IsAt c.args.programs.now v c.args.lane (Run c.in-Some.action)) c.deref.ensures.value c.in-Some.ensures.at)

pub can_begin-requires-clause-group_in : goal.can_begin-requires-clause-group_in
can_begin-requires-clause-group_in c =
    let l = run_in c.args.plan.now c.args.programs.now c.args.run.now c.requires c.programs_are_safe.ensures.safe c.args.lane c.in-Some.action (subst (λ (v : List ℕ). IsAt c.args.programs.now v c.args.lane (Run c.in-Some.action)) c.deref.ensures.value c.in-Some.ensures.at) in
    let k = c.group-group.ensures.least in
    omega (arith, l, k)

pub can_begin-requires-clause-many : goal.can_begin-requires-clause-many
can_begin-requires-clause-many c = ap (λ (v : List ℕ). length v) c.deref-in-Some-2.ensures.value ∙ many c.args.plan.now c.args.programs.now c.args.run.now c.requires

pub returns-else-can_begin-clause-impossible : goal.returns-else-can_begin-clause-impossible
returns-else-can_begin-clause-impossible c =
    let p = c.args.plan.now in
    let programs = c.args.programs.now in
    let run = c.args.run.now in
    let a = c.in-Some.action in
    no_begin_all c.args.plan.now c.args.programs.now c.args.run.now c.requires c.members_are_those.ensures c.args.lane a (subst (λ (v : List ℕ). IsAt c.args.programs.now v c.args.lane (Run c.in-Some.action)) c.deref.ensures.value c.in-Some.ensures.at)
    (λ all. not_true c.can_begin.result c.can_begin.ensures.1 c.if-can_begin.false
    (subst (λ (v : List ℕ). AllCanJoin p programs v c.deref-in-Some-3.result.now c.group-group.result) (sym c.deref-in-Some-2.ensures.value)
    (subst (λ (v : List Bool). AllCanJoin p programs run.places.items v c.group-group.result) (sym c.deref-in-Some-3.ensures.value)
    (subst (λ g. AllCanJoin p programs run.places.items run.started.items g) (sym c.group-group.ensures.is) all))))
