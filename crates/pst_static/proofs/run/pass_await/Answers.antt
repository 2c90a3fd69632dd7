use Rattle.std.proofs.Common.{◌≡◌, ◌∙◌, ℕ, List, Bool, length, get_or, false, ap, sym, subst, arith}
use Rattle.pst_book.proofs.Loops.{not_true}
use Rattle.pst_programs.specs.declared.program.Instruction.TheVariants.{Await}
use Rattle.pst_programs.specs.Machine.{IsAt}
use Rattle.pst_static.specs.Runs.{state_of}
use Rattle.pst_static.proofs.Tied.{many, await_in, no_pass, untold_one}
use Rattle.pst_static.proofs.run.pass_await.Goals as goal

pub await_at-requires : goal.await_at-requires
await_at-requires c = ap (λ (v : List ℕ). length v) c.deref.ensures.value ∙ many c.args.plan.now c.args.programs.now c.args.run.now c.requires.run

pub returns-in-None-clause-impossible : goal.returns-in-None-clause-impossible
returns-in-None-clause-impossible c =
    no_pass c.args.plan.now c.args.programs.now (state_of c.args.run.now) c.args.lane c.requires.none
    (λ a at told. c.in-None.ensures.at a (subst (λ (v : List ℕ). IsAt c.args.programs.now v c.args.lane (Await a)) (sym c.deref.ensures.value) at))

pub is_set-requires : goal.is_set-requires
is_set-requires c =
    let l = await_in c.args.plan.now c.args.programs.now c.args.run.now c.requires.run c.programs_are_safe.ensures.safe c.args.lane c.in-Some.action (subst (λ (v : List ℕ). IsAt c.args.programs.now v c.args.lane (Await c.in-Some.action)) c.deref.ensures.value c.in-Some.ensures.at) in
    let n = c.requires.run.many_told in
    let e : length c.deref-in-Some.result.now ≡ length c.args.run.now.told.items = ap (λ (v : List Bool). length v) c.deref-in-Some.ensures.value in
    omega (arith, l, n, e)

pub returns-else-is_set-clause-impossible : goal.returns-else-is_set-clause-impossible
returns-else-is_set-clause-impossible c =
    let run = c.args.run.now in
    let at = (subst (λ (v : List ℕ). IsAt c.args.programs.now v c.args.lane (Await c.in-Some.action)) c.deref.ensures.value c.in-Some.ensures.at) in
    let l = await_in c.args.plan.now c.args.programs.now c.args.run.now c.requires.run c.programs_are_safe.ensures.safe c.args.lane c.in-Some.action at in
    no_pass c.args.plan.now c.args.programs.now (state_of run) c.args.lane c.requires.none
    (untold_one c.args.plan.now c.args.programs.now (state_of run) c.args.lane c.in-Some.action at
    (λ told. not_true c.is_set.result c.is_set.ensures.1 c.if-is_set.false
    (ap (λ (v : List Bool). get_or v c.in-Some.action false) c.deref-in-Some.ensures.value ∙ (c.requires.run.told_is c.in-Some.action l).1 told)))
