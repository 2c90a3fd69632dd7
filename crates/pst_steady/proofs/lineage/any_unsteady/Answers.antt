use Rattle.std.proofs.Common.{◌≡◌, ◌<◌, false, map, length, ap, sym, ◌∙◌, refl, arith, true≢false}
use Rattle.std.specs.Prelude.{IsSome}
use Rattle.std.proofs.lemmas.Grind.{common_steps}
use Rattle.pst_ast.specs.DeclarationView.{view_unit}
use Rattle.pst_ast.specs.Declarations.{declarations}
use Rattle.pst_steady.specs.Reached.{value_at}
use Rattle.pst_steady.proofs.Lists.{there_is}
use Rattle.pst_steady.proofs.Lined.{some_of}
use Rattle.pst_steady.proofs.lineage.any_unsteady.Goals as goal

pub returns-then-not-is_steady_number : goal.returns-then-not-is_steady_number
returns-then-not-is_steady_number c =
    let units = map view_unit c.args.sites.now in
    let at = c.loop-at.at in
    let long : length c.as_slice-at-end.result.now ≡ length (declarations units) = ap length (c.as_slice-at-end.ensures ∙ c.requires.declared) in
    let within : at < length (declarations units) = omega (arith, long) in
    let d = there_is (declarations units) at within in
    let marked : IsSome (value_at c.args.marked.now at) = grind (arith, common_steps) in
    let mark = some_of (value_at c.args.marked.now at) marked in
    let wrong : c.is_steady_number.result ≡ false = grind (arith, common_steps) in
    ((λ _. record { number = at; derived = d.0; mark = mark.0; before = within; there = d.1; is_marked = mark.1; unsteady = λ s. true≢false (sym ((c.is_steady_number.ensures d.0 d.1).1 s) ∙ wrong) }), λ _. refl)
