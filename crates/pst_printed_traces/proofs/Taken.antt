-- The text of a trace is checked as what it is.
use Rattle.std.proofs.Common.{◌≡◌, ◌<◌, ◌≤◌, ◌^◌, ℕ, List, length, inl, refl, sym, ap, subst, arith}
use Rattle.std.specs.Prelude.{map, string_bytes}
use Rattle.std.specs.List.{flat_map}
use Rattle.pst_model.specs.ModelTree.{ModelTree}
use Rattle.pst_scen.specs.declared.event.Event.{Event}
use Rattle.pst_scen.specs.declared.scenario.Scenario.{Scenario}
use Rattle.pst_scen.specs.Laws.{PrefixesAreLegal}
use Rattle.pst_scen.specs.Trace.{IsLegalTrace, IsWhole}
use Rattle.pst_trace_texts.specs.declared.last.Last.{Last}
use Rattle.pst_trace_texts.specs.declared.last.Last.TheVariants as last
use Rattle.pst_trace_texts.specs.Lines.{line}
use Rattle.pst_trace_texts.specs.Header.{header_text}
use Rattle.pst_trace_texts.specs.Texts.{trace_text}
use Rattle.pst_trace_lines.specs.declared.last.LastLine.{LastLine}
use Rattle.pst_trace_lines.specs.declared.last.LastLine.TheVariants as said
use Rattle.pst_trace_reader.specs.declared.text.TraceText.{TraceText}
use Rattle.pst_written_traces.specs.Written.{MayBeRead, Says, WrittenTracesAreRead}
use Rattle.pst_trace_verdict.specs.declared.verdict.TraceVerdict.{TraceVerdict}
use Rattle.pst_trace_verdict.specs.declared.verdict.TraceVerdict.TheVariants as verdict
use Rattle.pst_trace_verdict.specs.Events.{RunsOn}
use Rattle.pst_trace_verdict.specs.Laws.{TraceVerdictsAreOne}
use Rattle.pst_trace_verdict.specs.Verdicts.{OfEvents, IsWhole as EndsWhole, IsPrefix as EndsEarly, OfText, HeaderKept, IsTraceVerdict}
use Rattle.pst_scenario_answers.specs.declared.check.CheckAnswer.{CheckAnswer}
use Rattle.pst_scenario_answers.specs.Checked.{IsChecked, IsNoTrace, IsJudged, answer_of}
use Rattle.pst_printed_traces.specs.Printed.{IsPrintable, WholeTracesAreTaken, BegunTracesAreTaken}
use Rattle.pst_printed_traces.proofs.Inside.{start_inside, all_numbered, whole_blocks}

module _ (reads : WrittenTracesAreRead) (verdicts : TraceVerdictsAreOne) (names : List (List ℕ)) (m : ModelTree) (s : Scenario) (lanes : ℕ) (trace : List Event) where
  may_be_read : IsPrintable names s → lanes ≤ 16 → IsLegalTrace s lanes trace → MayBeRead names s trace
  may_be_read own few legal = record {
    printed = own.printed;
    actions = own.actions;
    inferred = own.inferred;
    blocks = whole_blocks s lanes trace legal;
    numbered = all_numbered s lanes own.actions few trace legal;
  }

  -- what is read has the verdict of the events and the last line that were written
  verdict_on : (told : LastLine) (t : TraceText) (v : TraceVerdict) → ((lines : ℕ) → OfEvents s lines trace told v)
      → (t.format ≡ 2) × (flat_map line (map string_bytes t.header.items) ≡ header_text 2 names m s) × (t.events.items ≡ trace) × (t.last ≡ told) → IsTraceVerdict names m s t v
  verdict_on told t v own (format, header, events, end) =
      subst (λ (f : ℕ). OfText names m s f (map string_bytes t.header.items) t.events.items t.last v) (sym format)
      (subst (λ (es : List Event). OfText names m s 2 (map string_bytes t.header.items) es t.last v) (sym events)
      (subst (λ (l : LastLine). OfText names m s 2 (map string_bytes t.header.items) trace l v) (sym end)
      (HeaderKept v (record { has = inl refl; is = sym header }) (own (length (map string_bytes t.header.items))))))

  taken : (end : Last) (told : LastLine) (v : TraceVerdict) (answer : CheckAnswer) → MayBeRead names s trace → Says (length s.actions) end told
      → ((lines : ℕ) → OfEvents s lines trace told v) → IsChecked names m s (trace_text names m s trace end) answer → answer ≡ answer_of v
  taken end told v _ may says own (IsNoTrace number bad) = absurd ((reads names m s trace end told may says).1.no_bad_line number bad)
  taken end told v _ may says own (IsJudged t given read judged) =
      ap answer_of (verdicts names m s t given v judged (verdict_on told t v own ((reads names m s trace end told may says).1.found t read)))

  -- not every action has ended where one runs
  not_whole : (act lane : ℕ) → IsLegalTrace s lanes trace → RunsOn trace act lane → IsWhole s trace → ⊥
  not_whole act lane legal (start, going) whole = going (whole act (start_inside s lanes trace act lane legal start).0)

lane_of : {lanes lane : ℕ} → lanes ≤ 16 → lane < lanes → lane ≤ 15
lane_of few inside = omega (arith, few, inside)

act_of : {names : List (List ℕ)} {s : Scenario} {act : ℕ} → IsPrintable names s → act < length s.actions → act < 2 ^ 32
act_of own inside = let small = own.actions in omega (arith, small, inside)

pub whole_taken : WrittenTracesAreRead → TraceVerdictsAreOne → WholeTracesAreTaken
whole_taken reads verdicts names m s lanes trace answer own few legal whole is =
    taken reads verdicts names m s lanes trace last.Done (said.Done (length s.actions)) verdict.Whole answer (may_be_read reads verdicts names m s lanes trace own few legal) refl
    (λ lines. EndsWhole (record { lanes = lanes; legal = legal }, whole) (refl, whole)) is

pub begun_taken : WrittenTracesAreRead → TraceVerdictsAreOne → PrefixesAreLegal → BegunTracesAreTaken
begun_taken reads verdicts legals names m s lanes trace last.Done answer own few prefix at is = absurd at
begun_taken reads verdicts legals names m s lanes trace last.Solved answer own few prefix at is = absurd at
begun_taken reads verdicts legals names m s lanes trace (last.Fault lane act call) answer own few prefix (runs, small) is =
    let legal : IsLegalTrace s lanes trace = legals s lanes trace prefix in
    let inside = start_inside s lanes trace act lane legal runs.0 in
    taken reads verdicts names m s lanes trace (last.Fault lane act call) (said.Fault lane act call) verdict.Prefix answer (may_be_read reads verdicts names m s lanes trace own few legal)
    (refl, lane_of few inside.1, act_of own inside.0, small)
    (λ lines. EndsEarly (record { lanes = lanes; prefix = prefix }, not_whole reads verdicts names m s lanes trace act lane legal runs) runs) is
begun_taken reads verdicts legals names m s lanes trace (last.Trap lane act kind) answer own few prefix (runs, least, most) is =
    let legal : IsLegalTrace s lanes trace = legals s lanes trace prefix in
    let inside = start_inside s lanes trace act lane legal runs.0 in
    taken reads verdicts names m s lanes trace (last.Trap lane act kind) (said.Trap lane act kind) verdict.Prefix answer (may_be_read reads verdicts names m s lanes trace own few legal)
    (refl, lane_of few inside.1, act_of own inside.0, least, most)
    (λ lines. EndsEarly (record { lanes = lanes; prefix = prefix }, not_whole reads verdicts names m s lanes trace act lane legal runs) runs) is
