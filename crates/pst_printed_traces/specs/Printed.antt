-- What is printed of a trace is taken by a check of it.
use Rattle.std.specs.Prelude.{◌≡◌, ℕ, ◌^◌, ◌<◌, ◌≤◌, List, length, All, true}
use Rattle.std.specs.List.{list_all}
use Rattle.pst_model.specs.ModelTree.{ModelTree}
use Rattle.pst_scen.specs.declared.event.Event.{Event}
use Rattle.pst_scen.specs.declared.scenario.Scenario.{Scenario}
use Rattle.pst_scen.specs.Trace.{IsLegalTrace, IsWhole, Prefix}
use Rattle.pst_trace_texts.specs.declared.last.Last.{Last}
use Rattle.pst_trace_texts.specs.declared.last.Last.TheVariants as last
use Rattle.pst_trace_texts.specs.Texts.{trace_text}
use Rattle.pst_trace_lines.specs.Headers.{is_printed}
use Rattle.pst_trace_verdict.specs.Events.{RunsOn}
use Rattle.pst_scenario_answers.specs.declared.check.CheckAnswer.{CheckAnswer}
use Rattle.pst_scenario_answers.specs.declared.check.CheckAnswer.TheVariants as checked
use Rattle.pst_scenario_answers.specs.Checked.{IsChecked}

-- names of printed bytes alone, and counts below 2^32
pub record IsPrintable (names : List (List ℕ)) (s : Scenario) : Type 0 where
  pub printed : All (λ name. list_all is_printed name ≡ true) names
  pub actions : length s.actions < 2 ^ 32
  pub inferred : s.level < 2 ^ 32

-- The last line tells why the trace ends there: at an action that runs on the lane, its call of that number, counted from 1, failed, or its
-- body trapped.
abbrev pub EndsAt : List Event → Last → Type 0
EndsAt trace last.Done = ⊥
EndsAt trace last.Solved = ⊥
EndsAt trace (last.Fault lane act call) = RunsOn trace act lane × (call < 2 ^ 32)
EndsAt trace (last.Trap lane act kind) = RunsOn trace act lane × (1 ≤ kind) × (kind ≤ 3)

-- The text of a whole legal trace is checked as whole.
abbrev pub WholeTracesAreTaken : Type 0
WholeTracesAreTaken =
    (names : List (List ℕ)) (m : ModelTree) (s : Scenario) (lanes : ℕ) (trace : List Event) (answer : CheckAnswer)
    → IsPrintable names s → lanes ≤ 16 → IsLegalTrace s lanes trace → IsWhole s trace
    → IsChecked names m s (trace_text names m s trace last.Done) answer → answer ≡ checked.Whole

-- The text of what begins one, up to an action that runs, is checked as a prefix.
abbrev pub BegunTracesAreTaken : Type 0
BegunTracesAreTaken =
    (names : List (List ℕ)) (m : ModelTree) (s : Scenario) (lanes : ℕ) (trace : List Event) (end : Last) (answer : CheckAnswer)
    → IsPrintable names s → lanes ≤ 16 → Prefix s lanes trace → EndsAt trace end
    → IsChecked names m s (trace_text names m s trace end) answer → answer ≡ checked.Prefix
