-- A check takes what a run on one lane prints.
use Rattle.std.proofs.Common.{◌≡◌, ◌<◌, ◌≤◌, ℕ, zero, suc, List, length, false, sym, subst, arith}
use Rattle.std.specs.Prelude.{Option}
use Rattle.std.proofs.lemmas.List.Elements.{Contains-push}
use Rattle.pst_target.specs.declared.call.Call.{Call as Answered}
use Rattle.pst_model.specs.ModelTree.{ModelTree}
use Rattle.pst_scen.specs.declared.event.Event.{Event}
use Rattle.pst_scen.specs.declared.event.Event.TheVariants.{Start}
use Rattle.pst_scen.specs.declared.scenario.Scenario.{Scenario}
use Rattle.pst_scen.specs.Plan.{Entries, widest}
use Rattle.pst_scen.specs.Plans.{IsPlanOf}
use Rattle.pst_scen.specs.Trace.{IsLegalTrace, Prefix}
use Rattle.pst_legal.specs.Body.{BodyRun, Trap, Wants}
use Rattle.pst_order.specs.Facts.{LinksStates}
use Rattle.pst_order.specs.Laws.{RuleIsLegal, RuleIsPrefix}
use Rattle.pst_lanes.specs.Laws.{StartsOnce}
use Rattle.pst_book.specs.Books.{View}
use Rattle.pst_exec.specs.Alone.{RanWhole, RanUpTo, FailedAt, events_of}
use Rattle.pst_trace_texts.specs.declared.last.Last.{Last}
use Rattle.pst_trace_texts.specs.declared.last.Last.TheVariants as last
use Rattle.pst_trace_texts.specs.Texts.{trace_text}
use Rattle.pst_trace_verdict.specs.Events.{RunsOn}
use Rattle.pst_run_alone.specs.Shown.{IsTooWide, HasEnded, HasFailed, HasTrapped}
use Rattle.pst_scenario_answers.specs.declared.check.CheckAnswer.{CheckAnswer}
use Rattle.pst_scenario_answers.specs.declared.check.CheckAnswer.TheVariants as checked
use Rattle.pst_scenario_answers.specs.Checked.{IsChecked}
use Rattle.pst_body_ends.specs.Ends.{BodiesAreShort}
use Rattle.pst_printed_traces.specs.Printed.{IsPrintable, EndsAt, WholeTracesAreTaken, BegunTracesAreTaken}
use Rattle.pst_printed_runs.specs.Taken.{RunsAreTaken}
use Rattle.pst_printed_runs.proofs.Core.{by_rule, not_ended}

at_most_one : (n : ℕ) → (1 < n → ⊥) → n ≤ 1
at_most_one zero few = omega arith
at_most_one (suc zero) few = omega arith
at_most_one (suc (suc n)) few = absurd (few (omega arith))

-- the laws that a run on one lane rests on
record RunLaws : Type 0 where
  whole : WholeTracesAreTaken
  begun : BegunTracesAreTaken
  legal : RuleIsLegal
  prefix : RuleIsPrefix
  once : StartsOnce
  short : BodiesAreShort

module _ (laws : RunLaws) (names : List (List ℕ)) (m : ModelTree) (s : Scenario) (plan : Entries) (own : IsPrintable names s) (links : LinksStates s) (planned : IsPlanOf s plan) (fits : 1 < widest plan.groups → ⊥) where
  whole : (before after : Option (List Answered)) (book : View) (given : CheckAnswer) → RanWhole m s plan before after book
      → IsChecked names m s (trace_text names m s book.trace last.Done) given → given ≡ checked.Whole
  whole before after book given ran is =
      laws.whole names m s 1 book.trace given own (omega arith) (laws.legal s 1 book.trace links planned.runs (by_rule s 1 book.trace _ ran.is_of.core)) ran.whole is

  module _ (before after : Option (List Answered)) (action : ℕ) (to : BodyRun) (book : View) (ran : RanUpTo m s plan before after action to book) where
    legal : IsLegalTrace s 1 book.trace
    legal = laws.legal s 1 book.trace links planned.runs (by_rule s 1 book.trace _ ran.is_of.core)

    begun : Prefix s 1 book.trace
    begun = laws.prefix s plan 1 book.trace links planned (at_most_one (widest plan.groups) fits) (by_rule s 1 book.trace _ ran.is_of.core)

    -- the action whose body broke off runs
    runs : RunsOn book.trace action 0
    runs =
        subst (λ (es : List Event). RunsOn es action 0) (sym ran.trace) (
          (false, Contains-push (events_of ran.actions) (Start action 0 false)),
          not_ended laws.once s 1 ran.actions action (subst (λ (es : List Event). IsLegalTrace s 1 es) ran.trace legal),
        )

    up_to : (end : Last) (given : CheckAnswer) → EndsAt book.trace end → IsChecked names m s (trace_text names m s book.trace end) given → given ≡ checked.Prefix
    up_to end given at is = laws.begun names m s 1 book.trace end given own (omega arith) begun at is

  failed : (before after : Option (List Answered)) (action call : ℕ) (book : View) (given : CheckAnswer) → FailedAt m s plan before after action call book
      → IsChecked names m s (trace_text names m s book.trace (last.Fault 0 action call)) given → given ≡ checked.Prefix
  failed before after action call book given f is =
      let few : length f.ran.runs.part < 1000 = laws.short m s action f.ran.runs.part (Wants f.function f.arguments) f.ran.runs.comes_to in
      let number = f.number in
      up_to before after action (Wants f.function f.arguments) book f.ran (last.Fault 0 action call) given
      (runs before after action (Wants f.function f.arguments) book f.ran, omega (arith, few, number)) is

  trapped : (before after : Option (List Answered)) (action kind : ℕ) (book : View) (given : CheckAnswer) → RanUpTo m s plan before after action (Trap kind) book
      → IsChecked names m s (trace_text names m s book.trace (last.Trap 0 action kind)) given → given ≡ checked.Prefix
  trapped before after action kind book given ran is =
      let short = laws.short m s action ran.runs.part (Trap kind) ran.runs.comes_to in
      up_to before after action (Trap kind) book ran (last.Trap 0 action kind) given (runs before after action (Trap kind) book ran, short.1, short.2) is

taken : RunLaws → RunsAreTaken
taken laws names m s plan before after old new _ _ given own links planned (IsTooWide wide same count) is = tt
taken laws names m s plan before after old new _ _ given own links planned (HasEnded book fits ran count) is = whole laws names m s plan own links planned fits before after book given ran is
taken laws names m s plan before after old new _ _ given own links planned (HasFailed action call book fits ran risen) is =
    failed laws names m s plan own links planned fits before after action call book given ran is
taken laws names m s plan before after old new _ _ given own links planned (HasTrapped action kind book fits ran count) is =
    trapped laws names m s plan own links planned fits before after action kind book given ran is

pub runs_taken : WholeTracesAreTaken → BegunTracesAreTaken → RuleIsLegal → RuleIsPrefix → StartsOnce → BodiesAreShort → RunsAreTaken
runs_taken w b l p o h = taken (record { whole = w; begun = b; legal = l; prefix = p; once = o; short = h })
