use Rattle.std.proofs.Common.{◌≡◌, List, length, slice_get, Some, refl, subst}
use Rattle.std.proofs.lemmas.Option.{slice_get_read}
use Rattle.pst_scen.specs.declared.act.Filled.{Filled}
use Rattle.pst_graph.proofs.Streaming.{stream_link, stream_inside}
use Rattle.pst_graph.proofs.groups.join_all_of.Goals as goal

pub join_by-requires-clause-link : goal.join_by-requires-clause-link
join_by-requires-clause-link c = λ b to.
    let is = slice_get_read c.as_slice-references.result.now (length c.as_slice-references.result.now) c.loop-i.i c.index-references-i.result refl c.loop-i-test.true c.index-references-i.is in
    stream_link c.args.scenario.now c.args.a c.act_at-act.result.now c.act_at-act.ensures c.loop-i.i c.index-references-i.result
    (subst (λ (references : List Filled). slice_get references c.loop-i.i ≡ Some c.index-references-i.result) c.as_slice-references.ensures is) b to

pub join_by-requires-clause-inside : goal.join_by-requires-clause-inside
join_by-requires-clause-inside c = λ b to.
    let is = slice_get_read c.as_slice-references.result.now (length c.as_slice-references.result.now) c.loop-i.i c.index-references-i.result refl c.loop-i-test.true c.index-references-i.is in
    stream_inside c.args.scenario.now c.args.a c.act_at-act.result.now c.act_at-act.ensures c.loop-i.i c.index-references-i.result
    (subst (λ (references : List Filled). slice_get references c.loop-i.i ≡ Some c.index-references-i.result) c.as_slice-references.ensures is) b to c.requires.linked
