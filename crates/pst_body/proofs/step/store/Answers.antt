use Rattle.std.proofs.Common.{◌≡◌, ℤ, ap, subst, ◌∙◌, slice_set, rules, SFits, w64, to_z, of_z}
use Rattle.std.proofs.lemmas.Int.{to_z-of_z}
use Rattle.std.proofs.lemmas.Result.{err_from_is_err_and}
use Rattle.pst_body.specs.declared.ending.BodyEnd.TheVariants.{Trap}
use Rattle.pst_legal.specs.Body.{State, Outcome, Traps, within}
use Rattle.pst_body.proofs.Steps.{stored_done, stored_outside}
use Rattle.pst_body.proofs.step.store.Goals as goal

pub returns-in_err-test_range : goal.returns-in_err-test_range
returns-in_err-test_range c =
    let p = err_from_is_err_and c.from_residual.result c.from_residual.ensures.1 in
    let fits : SFits w64 c.args.value = search rules in
    let same : to_z w64 (of_z w64 c.args.value) ≡ c.args.value = to_z-of_z w64 c.args.value fits in
    rw (p.1, p.2) (stored_outside (Unit {0}) c.args.local c.args.range c.args.value c.args.memory.now c.in_err-test_range.field-0.0
    (subst (λ (v : ℤ). (c.in_err-test_range.field-0.0 ≡ Trap 2) × ((state : State) (go : Outcome) → within state c.args.range v go ≡ Traps 2 state.left)) same c.in_err-test_range.ensures))

pub returns : goal.returns
returns c =
    let fits : SFits w64 c.args.value = search rules in
    let same : to_z w64 (of_z w64 c.args.value) ≡ c.args.value = to_z-of_z w64 c.args.value fits in
    stored_done (tt {0}) c.args.local c.args.range c.args.value c.args.memory.now c.set_local.new.self
    (subst (λ (v : ℤ). (state : State) (go : Outcome) → within state c.args.range v go ≡ go) same (λ state go. c.in_ok-test_range.ensures state go))
    (c.set_local.ensures ∙ ap (λ (v : ℤ). record c.args.memory.now { locals = slice_set c.args.memory.now.locals c.args.local v }) same)
