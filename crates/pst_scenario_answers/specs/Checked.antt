-- What is answered of a trace file, against a scenario, and the text of the answer.
use Rattle.std.specs.Prelude.{◌≡◌, ℕ, List, ◌++◌, codes, decimal}
use Rattle.pst_model.specs.ModelTree.{ModelTree}
use Rattle.pst_scen.specs.declared.scenario.Scenario.{Scenario}
use Rattle.pst_trace_texts.specs.Lines.{line}
use Rattle.pst_trace_reader.specs.declared.text.TraceText.{TraceText}
use Rattle.pst_trace_reader.specs.Traces.{IsTraceText, IsFirstBad}
use Rattle.pst_trace_verdict.specs.declared.verdict.TraceVerdict.{TraceVerdict}
use Rattle.pst_trace_verdict.specs.declared.verdict.TraceVerdict.TheVariants as verdict
use Rattle.pst_trace_verdict.specs.Verdicts.{IsTraceVerdict}
use Rattle.pst_scenario_answers.specs.declared.check.CheckAnswer.{CheckAnswer}
use Rattle.pst_scenario_answers.specs.declared.check.CheckAnswer.TheVariants.{Whole, Prefix, BadTrace, Illegal}

abbrev pub answer_text : CheckAnswer → List ℕ
answer_text Whole = line (codes "check whole")
answer_text Prefix = line (codes "check prefix")
answer_text (BadTrace number) = line (codes "badtrace " ++ decimal number)
answer_text (Illegal number rule) = line (codes "illegal " ++ decimal number ++ codes " " ++ decimal rule)

-- the answer that tells a verdict
abbrev pub answer_of : TraceVerdict → CheckAnswer
answer_of verdict.Whole = Whole
answer_of verdict.Prefix = Prefix
answer_of (verdict.Illegal number rule) = Illegal number rule

-- The text is none of a trace, and that is its first bad line; or it is one, and that is the verdict on it.
pub data IsChecked (names : List (List ℕ)) (m : ModelTree) (s : Scenario) (text : List ℕ) : CheckAnswer → Type 0 where
  IsNoTrace : (number : ℕ) → IsFirstBad text number → IsChecked names m s text (BadTrace number)
  IsJudged : (t : TraceText) (given : TraceVerdict) → IsTraceText text t → IsTraceVerdict names m s t given → IsChecked names m s text (answer_of given)

-- at most one answer is right
abbrev pub ChecksAreOne : Type 0
ChecksAreOne = (names : List (List ℕ)) (m : ModelTree) (s : Scenario) (text : List ℕ) (one other : CheckAnswer) → IsChecked names m s text one → IsChecked names m s text other → one ≡ other
