use Rattle.std.proofs.Common.{◌≡◌, ◌++◌, drop, false}
use Rattle.std.specs.Prelude.{string_bytes}
use Rattle.pst_trace_texts.specs.Texts.{events_text}
use Rattle.pst_trace_writer.proofs.events.write_events.Given as goal

abbrev pub invariant-loop-event : goal.invariant-loop-event
invariant-loop-event l =
    string_bytes l.text ++ events_text l.begun (drop l.event-index l.events) ≡ string_bytes l.fn.text ++ events_text false l.events
