use Rattle.std.proofs.Common.{rules}
use Rattle.std.proofs.lemmas.Int.{to_z-of_z}
use mir.Val.{SFits}
use mir.Syntax.{w64}
use Rattle.pst_values.proofs.OptionLemmas.{holds_run, run_upright}
use Rattle.pst_values.proofs.options.span_of_run.Goals as goal

pub returns-clause-upright : goal.returns-clause-upright
returns-clause-upright c =
    let f : SFits w64 c.at-low.result = search rules in
    let g : SFits w64 c.at-high.result = search rules in
    simp to_z-of_z (run_upright c.args.domain.now c.args.index c.args.count c.at-low.result c.at-high.result (c.domains_list_values.ensures c.args.domain.now c.spans-spans.ensures.domain) c.requires.some c.at-low.ensures c.at-high.ensures)

pub returns-clause-holds : goal.returns-clause-holds
returns-clause-holds c =
    let f : SFits w64 c.at-low.result = search rules in
    let g : SFits w64 c.at-high.result = search rules in
    simp to_z-of_z (holds_run c.args.domain.now c.args.index c.args.count c.at-low.result c.at-high.result (c.domains_list_values.ensures c.args.domain.now c.spans-spans.ensures.domain) c.requires.some c.at-low.ensures c.at-high.ensures)

pub returns-clause-low : goal.returns-clause-low
returns-clause-low c =
    let f : SFits w64 c.at-low.result = search rules in
    simp to_z-of_z c.at-low.ensures

pub returns-clause-high : goal.returns-clause-high
returns-clause-high c =
    let g : SFits w64 c.at-high.result = search rules in
    simp to_z-of_z c.at-high.ensures
