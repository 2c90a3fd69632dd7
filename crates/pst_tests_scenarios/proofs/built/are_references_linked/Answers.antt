use Rattle.std.proofs.Common.{◌<◌, length, refl, arith}
use Rattle.std.proofs.lemmas.Option.{slice_get_read, slice_get_within}
use Rattle.std.proofs.lemmas.Bool.Decides.{nat_tests}
use Rattle.pst_scen.specs.declared.act.Filled.{Filled}
use Rattle.pst_tests_scenarios.specs.Checked.{IsReferenceLinked}
use Rattle.pst_tests_scenarios.proofs.Checks.{each_more}
use Rattle.pst_tests_scenarios.proofs.built.are_references_linked.Goals as goal

pub loop-r-preserved : goal.loop-r-preserved
loop-r-preserved c =
    let references = c.args.references.now in
    each_more (λ k (y : Filled). IsReferenceLinked c.args.scenario.now c.args.a y) references c.loop-r.r c.index-references-r.result
    (slice_get_read references (length references) c.loop-r.r c.index-references-r.result refl c.loop-r-test.true c.index-references-r.is)
    (c.if-not-is_reference_linked.ensures refl) c.loop-r.invariant

pub returns : goal.returns
returns c = λ t r filled at.
    let within = slice_get_within c.args.references.now r filled at in
    let below : r < c.loop-r.r = grind (arith, nat_tests, within, c.loop-r-test.false) in
    c.loop-r.invariant r filled below at
