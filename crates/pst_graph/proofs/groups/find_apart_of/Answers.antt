use Rattle.std.proofs.Common.{◌≡◌, ◌<◌, List, length, slice_get, Some, refl, sym, subst, arith}
use Rattle.std.proofs.lemmas.Option.{slice_get_read, slice_get_within}
use Rattle.std.proofs.lemmas.Bool.Decides.{nat_tests}
use Rattle.pst_scen.specs.declared.act.Act.{Act}
use Rattle.pst_scen.specs.declared.act.Filled.{Filled}
use Rattle.pst_graph.specs.Streamed.{IsJoined}
use Rattle.pst_graph.proofs.Acted.{one_act}
use Rattle.pst_graph.proofs.Streaming.{stream_link, stream_inside, joined_more}
use Rattle.pst_graph.proofs.groups.find_apart_of.Goals as goal

pub apart_by-requires-clause-link : goal.apart_by-requires-clause-link
apart_by-requires-clause-link c = λ b to.
    let is = slice_get_read c.as_slice-references.result.now (length c.as_slice-references.result.now) c.loop-i.i c.index-references-i.result refl c.loop-i-test.true c.index-references-i.is in
    stream_link c.args.scenario.now c.args.a c.act_at-act.result.now c.act_at-act.ensures c.loop-i.i c.index-references-i.result
    (subst (λ (references : List Filled). slice_get references c.loop-i.i ≡ Some c.index-references-i.result) c.as_slice-references.ensures is) b to

pub apart_by-requires-clause-inside : goal.apart_by-requires-clause-inside
apart_by-requires-clause-inside c = λ b to.
    let is = slice_get_read c.as_slice-references.result.now (length c.as_slice-references.result.now) c.loop-i.i c.index-references-i.result refl c.loop-i-test.true c.index-references-i.is in
    stream_inside c.args.scenario.now c.args.a c.act_at-act.result.now c.act_at-act.ensures c.loop-i.i c.index-references-i.result
    (subst (λ (references : List Filled). slice_get references c.loop-i.i ≡ Some c.index-references-i.result) c.as_slice-references.ensures is) b to c.requires.linked

pub loop-i-preserved : goal.loop-i-preserved
loop-i-preserved c =
    let is = slice_get_read c.as_slice-references.result.now (length c.as_slice-references.result.now) c.loop-i.i c.index-references-i.result refl c.loop-i-test.true c.index-references-i.is in
    joined_more (IsJoined c.args.groups.now c.args.a) c.as_slice-references.result.now c.loop-i.i c.index-references-i.result is c.in_default.ensures c.loop-i.invariant

pub returns : goal.returns
returns c = λ b from.
    let at : slice_get c.as_slice-references.result.now from.reference ≡ Some from.filled =
    subst (λ (references : List Filled). slice_get references from.reference ≡ Some from.filled) (sym c.as_slice-references.ensures)
    (subst (λ (act : Act). slice_get act.references from.reference ≡ Some from.filled) (one_act c.args.scenario.now c.args.a from.act c.act_at-act.result.now from.is_act c.act_at-act.ensures) from.is) in
    let within = slice_get_within c.as_slice-references.result.now from.reference from.filled at in
    let below : from.reference < c.loop-i.i = grind (arith, nat_tests, within, c.loop-i-test.false) in
    c.loop-i.invariant from.reference from.filled below at b from.to
