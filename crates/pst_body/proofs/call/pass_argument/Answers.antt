use Rattle.std.proofs.Common.{◌≡◌, ◌∷◌, [], ◌++◌, ℤ, ap, subst, ◌∙◌, rules, SFits, w64, to_z, of_z}
use Rattle.std.proofs.lemmas.Int.{to_z-of_z}
use Rattle.std.proofs.lemmas.Result.{err_from_is_err_and}
use Rattle.pst_body.specs.declared.ending.BodyEnd.TheVariants.{Trap}
use Rattle.pst_model.specs.ConstraintTree.{view_constraint}
use Rattle.pst_legal.specs.Body.{State, Outcome, Traps, within}
use Rattle.pst_body.specs.Sites.{place_of}
use Rattle.pst_body.specs.Stores.{Store}
use Rattle.pst_body.proofs.Passing.{passed_outside, passed_one}
use Rattle.pst_body.proofs.call.pass_argument.Goals as goal

pub returns-in_err-test_range : goal.returns-in_err-test_range
returns-in_err-test_range c =
    let p = err_from_is_err_and c.from_residual-in_err-test_range.result c.from_residual-in_err-test_range.ensures.1 in
    let fits : SFits w64 c.in_ok-value.value = search rules in
    let same : to_z w64 (of_z w64 c.in_ok-value.value) ≡ c.in_ok-value.value = to_z-of_z w64 c.in_ok-value.value fits in
    rw (p.1, p.2) (passed_outside (Unit {0}) (place_of c.args.site.now c.args.turns.now) (view_constraint c.args.argument.now) c.args.range c.args.memory.now c.read.new.memory c.in_ok-value.value c.in_err-test_range.field-0.0
    c.in_ok-value.ensures.value c.in_ok-value.ensures.same
    (subst (λ (v : ℤ). (c.in_err-test_range.field-0.0 ≡ Trap 2) × ((state : State) (go : Outcome) → within state c.args.range v go ≡ Traps 2 state.left)) same c.in_err-test_range.ensures))

pub returns : goal.returns
returns c =
    let fits : SFits w64 c.in_ok-value.value = search rules in
    let same : to_z w64 (of_z w64 c.in_ok-value.value) ≡ c.in_ok-value.value = to_z-of_z w64 c.in_ok-value.value fits in
    passed_one (tt {0}) (place_of c.args.site.now c.args.turns.now) (view_constraint c.args.argument.now) c.args.range c.args.memory.now c.add_argument.new.self c.in_ok-value.value
    c.in_ok-value.ensures.value (subst (λ (v : ℤ). (state : State) (go : Outcome) → within state c.args.range v go ≡ go) same (λ state go. c.in_ok-test_range.ensures state go))
    (c.add_argument.ensures ∙ ap (λ (v : ℤ). record c.read.new.memory { arguments = c.read.new.memory.arguments ++ v ∷ [] }) same ∙ ap (λ (s : Store). record s { arguments = s.arguments ++ c.in_ok-value.value ∷ [] }) c.in_ok-value.ensures.same)
