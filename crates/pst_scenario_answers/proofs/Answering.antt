-- The answer of a trace file.
use Rattle.std.proofs.Common.{◌≡◌, ℕ, List, sym, subst}
use Rattle.std.specs.Prelude.{Err}
use Rattle.pst_model.specs.ModelTree.{ModelTree}
use Rattle.pst_scen.specs.declared.scenario.Scenario.{Scenario}
use Rattle.pst_trace_reader.specs.declared.text.TraceText.{TraceText}
use Rattle.pst_trace_reader.specs.declared.body.TraceEnd.{TraceEnd}
use Rattle.pst_trace_reader.specs.declared.body.TraceEnd.TheVariants.{Bad}
use Rattle.pst_trace_reader.specs.Traces.{IsTraceText}
use Rattle.pst_trace_reader.specs.Top.{TextEnds}
use Rattle.pst_trace_verdict.specs.declared.verdict.TraceVerdict.{TraceVerdict}
use Rattle.pst_trace_verdict.specs.Verdicts.{IsTraceVerdict}
use Rattle.pst_scenario_answers.specs.declared.check.CheckAnswer.{CheckAnswer}
use Rattle.pst_scenario_answers.specs.declared.check.CheckAnswer.TheVariants.{BadTrace}
use Rattle.pst_scenario_answers.specs.Checked.{answer_of, IsChecked, IsNoTrace, IsJudged}

module _ (names : List (List ℕ)) (m : ModelTree) (s : Scenario) (text : List ℕ) where
  pub no_trace : (e : TraceEnd) (number : ℕ) → e ≡ Bad number → TextEnds text (Err e) → IsChecked names m s text (BadTrace number)
  no_trace e number is ends = IsNoTrace number (subst (λ (x : TraceEnd). TextEnds text (Err x)) is ends)

  pub judged : (t : TraceText) (given : TraceVerdict) (answer : CheckAnswer) → IsTraceText text t → IsTraceVerdict names m s t given → answer ≡ answer_of given → IsChecked names m s text answer
  judged t given answer read is same = subst (λ (a : CheckAnswer). IsChecked names m s text a) (sym same) (IsJudged t given read is)
