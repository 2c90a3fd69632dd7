use Rattle.std.proofs.Common.{◌≡◌, ℤ, List, Ok, Err, map, subst, rules, SFits, w64, to_z, of_z}
use Rattle.std.proofs.lemmas.Int.{to_z-of_z}
use Rattle.std.proofs.lemmas.Result.{err_from_is_err_and}
use Rattle.pst_expr.specs.declared.ranges.Span.{Span}
use Rattle.pst_model.specs.ConstraintTree.{view_constraint}
use Rattle.pst_model.specs.ModelView.{view_function}
use Rattle.pst_legal.specs.Body.{State, Outcome, Traps, tested}
use Rattle.pst_body.specs.declared.ending.BodyEnd.TheVariants.{Trap}
use Rattle.pst_body.specs.Sites.{place_of}
use Rattle.pst_body.specs.Passing.{Passed}
use Rattle.pst_body.proofs.Passing.{call_unpassed, call_unanswered, call_untested, call_done}
use Rattle.pst_body.proofs.call.call.Goals as goal

pub returns-in_err-pass_arguments : goal.returns-in_err-pass_arguments
returns-in_err-pass_arguments g c =
    let place = place_of c.args.site.now c.args.turns.now in
    let ks = map view_constraint c.args.arguments.now in
    let found = view_function c.function_at-found.result.now in
    let p = err_from_is_err_and c.from_residual.result c.from_residual.ensures.1 in
    rw (p.1, p.2) (call_unpassed place c.args.function ks found c.function_at-found.ensures (Unit {0}) c.args.memory.now c.pass_arguments.new.memory (g.T.Target.calls c.args.lane.now) (g.T.Target.faults c.args.lane.now) c.in_err-pass_arguments.field-0.0
    (subst (λ (l : List Span). Passed {A = Unit {0}} place ks l c.args.memory.now c.pass_arguments.new.memory (Err c.in_err-pass_arguments.field-0.0)) c.as_slice.ensures.value c.in_err-pass_arguments.ensures))

pub returns-in_err-answer : goal.returns-in_err-answer
returns-in_err-answer g c =
    let place = place_of c.args.site.now c.args.turns.now in
    let ks = map view_constraint c.args.arguments.now in
    let found = view_function c.function_at-found.result.now in
    let p = err_from_is_err_and c.from_residual-in_err-answer.result c.from_residual-in_err-answer.ensures.1 in
    rw (p.1, p.2) (call_unanswered place c.args.function ks found c.function_at-found.ensures (tt {0}) c.args.memory.now c.pass_arguments.new.memory c.ask.new.memory (g.T.Target.calls c.args.lane.now) (g.T.Target.calls c.ask.new.lane) (g.T.Target.faults c.args.lane.now) (g.T.Target.faults c.ask.new.lane) c.in_err-answer.field-0.0
    (subst (λ (l : List Span). Passed {A = Unit {0}} place ks l c.args.memory.now c.pass_arguments.new.memory (Ok (tt {0}))) c.as_slice.ensures.value c.in_ok-pass_arguments.ensures) c.in_err-answer.ensures)

pub returns-in_err-test_answer : goal.returns-in_err-test_answer
returns-in_err-test_answer g c =
    let place = place_of c.args.site.now c.args.turns.now in
    let ks = map view_constraint c.args.arguments.now in
    let found = view_function c.function_at-found.result.now in
    let p = err_from_is_err_and c.from_residual-in_err-test_answer.result c.from_residual-in_err-test_answer.ensures.1 in
    let fits : SFits w64 c.in_ok-answer.answer = search rules in
    let same : to_z w64 (of_z w64 c.in_ok-answer.answer) ≡ c.in_ok-answer.answer = to_z-of_z w64 c.in_ok-answer.answer fits in
    rw (p.1, p.2) (call_untested place c.args.function ks found c.function_at-found.ensures (tt {0}) c.args.memory.now c.pass_arguments.new.memory c.ask.new.memory (g.T.Target.calls c.args.lane.now) (g.T.Target.calls c.ask.new.lane) (g.T.Target.faults c.args.lane.now) (g.T.Target.faults c.ask.new.lane) c.in_ok-answer.answer c.in_err-test_answer.field-0.0
    (subst (λ (l : List Span). Passed {A = Unit {0}} place ks l c.args.memory.now c.pass_arguments.new.memory (Ok (tt {0}))) c.as_slice.ensures.value c.in_ok-pass_arguments.ensures) c.in_ok-answer.ensures
    (subst (λ (v : ℤ). (c.in_err-test_answer.field-0.0 ≡ Trap 2) × ((state : State) (go : Outcome) → tested found.answer v state go ≡ Traps 2 state.left)) same c.in_err-test_answer.ensures))

pub returns : goal.returns
returns g c =
    let place = place_of c.args.site.now c.args.turns.now in
    let ks = map view_constraint c.args.arguments.now in
    let found = view_function c.function_at-found.result.now in
    let fits : SFits w64 c.in_ok-answer.answer = search rules in
    let same : to_z w64 (of_z w64 c.in_ok-answer.answer) ≡ c.in_ok-answer.answer = to_z-of_z w64 c.in_ok-answer.answer fits in
    rw same (call_done place c.args.function ks found c.function_at-found.ensures (tt {0}) c.args.memory.now c.pass_arguments.new.memory c.ask.new.memory (g.T.Target.calls c.args.lane.now) (g.T.Target.calls c.ask.new.lane) (g.T.Target.faults c.args.lane.now) (g.T.Target.faults c.ask.new.lane) c.in_ok-answer.answer
    (subst (λ (l : List Span). Passed {A = Unit {0}} place ks l c.args.memory.now c.pass_arguments.new.memory (Ok (tt {0}))) c.as_slice.ensures.value c.in_ok-pass_arguments.ensures) c.in_ok-answer.ensures
    (subst (λ (v : ℤ). (state : State) (go : Outcome) → tested found.answer v state go ≡ go) same (λ state go. c.in_ok-test_answer.ensures state go)))
