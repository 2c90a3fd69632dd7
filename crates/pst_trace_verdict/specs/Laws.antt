-- Laws of verdicts on texts.
use Rattle.std.specs.Prelude.{◌≡◌, ℕ, List, map, string_bytes}
use Rattle.pst_model.specs.ModelTree.{ModelTree}
use Rattle.pst_scen.specs.declared.scenario.Scenario.{Scenario}
use Rattle.pst_scen.specs.Judging.{AreWholeBlocks}
use Rattle.pst_trace_reader.specs.declared.text.TraceText.{TraceText}
use Rattle.pst_trace_reader.specs.Traces.{IsTraceText}
use Rattle.pst_trace_verdict.specs.declared.verdict.TraceVerdict.{TraceVerdict}
use Rattle.pst_trace_verdict.specs.Verdicts.{IsTraceVerdict}

-- at most one verdict is right
abbrev pub TraceVerdictsAreOne : Type 0
TraceVerdictsAreOne =
    (names : List (List ℕ)) (m : ModelTree) (s : Scenario) (t : TraceText) (one other : TraceVerdict) → IsTraceVerdict names m s t one → IsTraceVerdict names m s t other → one ≡ other

-- the events that are read are whole blocks
abbrev pub ReadEventsAreBlocks : Type 0
ReadEventsAreBlocks = (text : List ℕ) (t : TraceText) → IsTraceText text t → AreWholeBlocks t.events.items
