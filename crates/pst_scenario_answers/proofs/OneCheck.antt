-- One answer of a trace file.
use Rattle.std.proofs.Common.{◌≡◌, ℕ, List, refl, sym, ap, subst, ◌∙◌}
use Rattle.std.specs.Prelude.{map, string_bytes}
use Rattle.pst_model.specs.ModelTree.{ModelTree}
use Rattle.pst_scen.specs.declared.event.Event.{Event}
use Rattle.pst_scen.specs.declared.scenario.Scenario.{Scenario}
use Rattle.pst_trace_lines.specs.declared.last.LastLine.{LastLine}
use Rattle.pst_trace_reader.specs.declared.text.TraceText.{TraceText}
use Rattle.pst_trace_reader.specs.Laws.{ReadingsAreOne}
use Rattle.pst_trace_verdict.specs.declared.verdict.TraceVerdict.{TraceVerdict}
use Rattle.pst_trace_verdict.specs.Verdicts.{OfText, IsTraceVerdict}
use Rattle.pst_trace_verdict.specs.Laws.{TraceVerdictsAreOne}
use Rattle.pst_scenario_answers.specs.declared.check.CheckAnswer.{CheckAnswer}
use Rattle.pst_scenario_answers.specs.declared.check.CheckAnswer.TheVariants.{BadTrace}
use Rattle.pst_scenario_answers.specs.Checked.{answer_of, IsChecked, IsNoTrace, IsJudged, ChecksAreOne}

-- a verdict on one text is one on another that says the same
on_other : (names : List (List ℕ)) (m : ModelTree) (s : Scenario) (t u : TraceText) (v : TraceVerdict)
    → t.format ≡ u.format → map string_bytes t.header.items ≡ map string_bytes u.header.items → t.events.items ≡ u.events.items → t.last ≡ u.last
    → IsTraceVerdict names m s t v → IsTraceVerdict names m s u v
on_other names m s t u v formats headers events lasts is =
    subst (λ (l : LastLine). OfText names m s u.format (map string_bytes u.header.items) u.events.items l v) lasts
    (subst (λ (es : List Event). OfText names m s u.format (map string_bytes u.header.items) es t.last v) events
    (subst (λ (h : List (List ℕ)). OfText names m s u.format h t.events.items t.last v) headers
    (subst (λ (f : ℕ). OfText names m s f (map string_bytes t.header.items) t.events.items t.last v) formats is)))

pub checks_one : ReadingsAreOne → TraceVerdictsAreOne → ChecksAreOne
checks_one readings verdicts names m s text _ _ (IsNoTrace n is) (IsNoTrace k other) = ap (λ i. BadTrace i) (readings.one_line text n k is other)
checks_one readings verdicts names m s text _ _ (IsNoTrace n is) (IsJudged t given read too) = absurd (readings.apart text t n read is)
checks_one readings verdicts names m s text _ _ (IsJudged t given read is) (IsNoTrace n other) = absurd (readings.apart text t n read other)
checks_one readings verdicts names m s text _ _ (IsJudged t v read is) (IsJudged u w again other) =
    let same = readings.one_trace text t u read again in
    ap answer_of (verdicts names m s u v w (on_other names m s t u v same.formats same.headers same.events same.lasts is) other)
