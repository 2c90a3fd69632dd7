use Rattle.std.proofs.Common.{◌<◌, List, refl, subst, arith}
use Rattle.std.proofs.lemmas.Option.{slice_get_within}
use Rattle.std.proofs.lemmas.Bool.Decides.{nat_tests}
use Rattle.pst_scen.specs.declared.act.Act.{Act}
use Rattle.pst_scen.specs.declared.act.Filled.{Filled}
use Rattle.pst_tests_scenarios.specs.Checked.{AreReferencesLinked}
use Rattle.pst_tests_scenarios.proofs.Checks.{each_more}
use Rattle.pst_tests_scenarios.proofs.built.are_acts_linked.Goals as goal

pub loop-a-preserved : goal.loop-a-preserved
loop-a-preserved c =
    let s = c.args.scenario.now in
    each_more (λ k (y : Act). AreReferencesLinked s k y.references) s.actions c.loop-a.a c.act_at.result.now c.act_at.ensures
    (subst (λ (references : List Filled). AreReferencesLinked s c.loop-a.a references) c.as_slice.ensures (c.if-not-are_references_linked.ensures refl)) c.loop-a.invariant

pub returns : goal.returns
returns c = λ t a act at.
    let within = slice_get_within c.args.scenario.now.actions a act at in
    let below : a < c.loop-a.a = grind (arith, nat_tests, within, c.requires, c.loop-a-test.false) in
    c.loop-a.invariant a act below at
