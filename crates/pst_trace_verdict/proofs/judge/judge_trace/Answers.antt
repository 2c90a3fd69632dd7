use Rattle.std.proofs.Common.{◌∙◌}
use Rattle.std.specs.Prelude.{map, string_bytes}
use Rattle.pst_model.specs.ModelView.{view_model}
use Rattle.pst_trace_verdict.proofs.Answering.{none_breaks, line_breaks, header_kept, of_some, leaves_of, header_of, many_of, events_of}
use Rattle.pst_trace_verdict.proofs.judge.judge_trace.Goals as goal

pub returns-in_default : goal.returns-in_default
returns-in_default c =
    none_breaks c.args.names.now (view_model c.args.model.now) c.args.scenario.now c.args.text.now.format (map string_bytes c.args.text.now.header.items) c.args.text.now.events.items c.args.text.now.last
    c.in_ok-own.field-0 _ c.breach.result c.in_default.is c.in_ok-own.ensures c.breach.ensures

pub returns-in-Some-leaves_at : goal.returns-in-Some-leaves_at
returns-in-Some-leaves_at c =
    line_breaks c.args.names.now (view_model c.args.model.now) c.args.scenario.now c.args.text.now.format (map string_bytes c.args.text.now.header.items) c.args.text.now.events.items c.args.text.now.last
    c.in-Some-leaves_at.at c.breach-in-Some-leaves_at.result (of_some _ _ c.in_ok-own.field-0 c.in-Some.own c.in-Some.is c.in_ok-own.ensures).0
    (leaves_of string_bytes c.as_slice.result.now c.args.text.now.header.items c.as_bytes.result.now _ c.in-Some-leaves_at.at c.as_slice.ensures.value
    (c.as_bytes.ensures.value ∙ (of_some _ _ c.in_ok-own.field-0 c.in-Some.own c.in-Some.is c.in_ok-own.ensures).1) c.in-Some-leaves_at.ensures) c.breach-in-Some-leaves_at.ensures

pub returns : goal.returns
returns c =
    header_kept c.args.names.now (view_model c.args.model.now) c.args.scenario.now c.args.text.now.format (map string_bytes c.args.text.now.header.items) c.args.text.now.events.items c.args.text.now.last
    c.in_ok-lines.lines c.judge_events.result (of_some _ _ c.in_ok-own.field-0 c.in-Some.own c.in-Some.is c.in_ok-own.ensures).0
    (header_of string_bytes c.as_slice.result.now c.args.text.now.header.items c.as_bytes.result.now _ c.as_slice.ensures.value
    (c.as_bytes.ensures.value ∙ (of_some _ _ c.in_ok-own.field-0 c.in-Some.own c.in-Some.is c.in_ok-own.ensures).1) c.in_default-leaves_at.ensures) (many_of string_bytes c.as_slice-2.result.now c.args.text.now.header.items c.in_ok-lines.lines c.as_slice-2.ensures.value c.in_ok-lines.ensures) (events_of c.args.scenario.now c.in_ok-lines.lines c.as_slice-3.result.now c.args.text.now.events.items c.args.text.now.last c.judge_events.result c.as_slice-3.ensures.value c.judge_events.ensures)
