use Rattle.std.proofs.Common.{◌≡◌, arith, take, subst, List}
use Rattle.std.proofs.lemmas.Grind.{common_steps}
use Rattle.pst_ast.specs.declared.scope_declaration.Declaration.{Declaration}
use Rattle.pst_declaration_rules.specs.Judged.{IsJudged}
use Rattle.pst_declaration_rules.proofs.Judging.{judged_none, judged_next}
use Rattle.pst_declaration_rules.proofs.findings.least_of_all.Goals as goal

pub loop-declaration-init : goal.loop-declaration-init
loop-declaration-init c = judged_none c.args.known.now

pub loop-declaration-preserved : goal.loop-declaration-preserved
loop-declaration-preserved c =
    judged_next c.args.known.now c.places_are_ordered.ensures.on c.as_slice-declaration-items.result.now c.loop-declaration.declaration-index _ c.loop-declaration.least c.in_ok-finding_of.field-0 c.earlier-least.result
    c.loop-declaration-test.true c.loop-declaration.invariant c.in_ok-finding_of.ensures c.earlier-least.ensures

pub returns : goal.returns
returns c =
    let all : take c.loop-declaration.declaration-index c.as_slice-declaration-items.result.now ≡ c.args.known.now.index.now = grind (arith, common_steps, c.loop-declaration-test.false, c.as_slice-declaration-items.ensures) in
    subst (λ (ds : List Declaration). IsJudged c.args.known.now ds c.loop-declaration.least) all c.loop-declaration.invariant
