-- What a run on one lane came to, with its text.
use Rattle.std.proofs.Common.{◌≡◌, ◌<◌, ℕ, List, [], length, refl, sym, ap, subst, ◌∙◌, append-nil}
use Rattle.std.specs.Prelude.{◌↔◌, Option, None, Some, Result, Ok, Err, IfOk, string_bytes}
use Rattle.pst_target.specs.declared.call.Call.{Call as Answered}
use Rattle.pst_model.specs.ModelTree.{ModelTree}
use Rattle.pst_scen.specs.declared.scenario.Scenario.{Scenario}
use Rattle.pst_scen.specs.Plan.{Entries, widest}
use Rattle.pst_book.specs.Books.{View}
use Rattle.pst_body.specs.Doing.{with_calls}
use Rattle.pst_exec.specs.Alone.{RunsAlone, IsNarrow}
use Rattle.pst_exec.specs.declared.ending.RunEnd.{RunEnd}
use Rattle.pst_exec.specs.declared.ending.RunEnd.TheVariants as end
use Rattle.pst_trace_texts.specs.declared.last.Last.TheVariants as last
use Rattle.pst_trace_texts.specs.Texts.{trace_text}
use Rattle.pst_run_alone.specs.declared.answer.RunAnswer.{RunAnswer}
use Rattle.pst_run_alone.specs.declared.answer.RunAnswer.TheVariants.{Done, Narrow, TargetFault, BodyTrap}
use Rattle.pst_run_alone.specs.declared.answer.ShownRun.{ShownRun}
use Rattle.pst_run_alone.specs.Shown.{ShowsRun, IsTooWide, HasEnded, HasFailed, HasTrapped, narrow_text, Says, SaysEnd, Shows}

-- no further call
pub with_none : (calls : Option (List Answered)) → with_calls calls [] ≡ calls
with_none None = refl
with_none (Some calls) = ap (λ (l : List Answered). Some l) (append-nil calls)

module _ (names : List (List ℕ)) (m : ModelTree) (s : Scenario) (plan : Entries) (before after : Option (List Answered)) (old new : ℕ) where
  pub done_shows : (book : View) (count : ℕ) (text : List ℕ) → RunsAlone m s plan before after old new (Ok book) → (IsNarrow (Ok book) ↔ (1 < widest plan.groups))
      → count ≡ length s.actions → text ≡ trace_text names m s book.trace last.Done → ShowsRun names m s plan before after old new (Done count) text
  done_shows book count text (ran, same) narrow many is =
      subst (λ (n : ℕ). ShowsRun names m s plan before after old new (Done n) text) (sym many)
      (subst (λ (t : List ℕ). ShowsRun names m s plan before after old new (Done (length s.actions)) t) (sym is) (HasEnded book narrow.1 ran same))

  narrow_shows : (need have : ℕ) (text : List ℕ) → RunsAlone m s plan before after old new (Err (end.Narrow need have)) → (IsNarrow (Err (end.Narrow need have)) ↔ (1 < widest plan.groups))
      → text ≡ narrow_text need have → ShowsRun names m s plan before after old new (Narrow need have) text
  narrow_shows need have text (wide, one, calls, same) narrow is =
      subst (λ (t : List ℕ). ShowsRun names m s plan before after old new (Narrow need have) t) (sym is)
      (subst (λ (n : ℕ). ShowsRun names m s plan before after old new (Narrow n have) (narrow_text n have)) (sym wide)
      (subst (λ (n : ℕ). ShowsRun names m s plan before after old new (Narrow (widest plan.groups) n) (narrow_text (widest plan.groups) n)) (sym one) (IsTooWide (narrow.0 tt) calls same)))

  failed_shows : (lane action call : ℕ) (book : View) (text : List ℕ) → RunsAlone m s plan before after old new (Err (end.TargetFault lane action call book))
      → (IsNarrow (Err (end.TargetFault lane action call book)) ↔ (1 < widest plan.groups))
      → text ≡ trace_text names m s book.trace (last.Fault lane action call) → ShowsRun names m s plan before after old new (TargetFault lane action call) text
  failed_shows lane action call book text (first, ran, risen) narrow is =
      subst (λ (t : List ℕ). ShowsRun names m s plan before after old new (TargetFault lane action call) t) (sym is)
      (subst (λ (n : ℕ). ShowsRun names m s plan before after old new (TargetFault n action call) (trace_text names m s book.trace (last.Fault n action call))) (sym first) (HasFailed action call book narrow.1 ran risen))

  trapped_shows : (lane action kind : ℕ) (book : View) (text : List ℕ) → RunsAlone m s plan before after old new (Err (end.BodyTrap lane action kind book))
      → (IsNarrow (Err (end.BodyTrap lane action kind book)) ↔ (1 < widest plan.groups))
      → text ≡ trace_text names m s book.trace (last.Trap lane action kind) → ShowsRun names m s plan before after old new (BodyTrap lane action kind) text
  trapped_shows lane action kind book text (first, ran, same) narrow is =
      subst (λ (t : List ℕ). ShowsRun names m s plan before after old new (BodyTrap lane action kind) t) (sym is)
      (subst (λ (n : ℕ). ShowsRun names m s plan before after old new (BodyTrap n action kind) (trace_text names m s book.trace (last.Trap n action kind))) (sym first) (HasTrapped action kind book narrow.1 ran same))

  -- ---- the same of what is shown

  answered : (answer : RunAnswer) (text : List ℕ) (shown : ShownRun) → Says answer text shown → ((t : List ℕ) → t ≡ text → ShowsRun names m s plan before after old new answer t)
      → ShowsRun names m s plan before after old new shown.answer (string_bytes shown.text)
  answered answer text shown says right =
      subst (λ (a : RunAnswer). ShowsRun names m s plan before after old new a (string_bytes shown.text)) (sym says.answer_is) (right (string_bytes shown.text) says.text_is)

  pub whole_shown : (book : View) (shown : ShownRun) → RunsAlone m s plan before after old new (Ok book) → (IsNarrow (Ok book) ↔ (1 < widest plan.groups))
      → Says (Done (length s.actions)) (trace_text names m s book.trace last.Done) shown → ShowsRun names m s plan before after old new shown.answer (string_bytes shown.text)
  whole_shown book shown ran narrow says = answered (Done (length s.actions)) _ shown says (λ t is. done_shows book (length s.actions) t ran narrow refl is)

  pub end_shown : (stop : RunEnd) (shown : ShownRun) → RunsAlone m s plan before after old new (Err stop) → (IsNarrow (Err stop) ↔ (1 < widest plan.groups))
      → SaysEnd names m s stop shown → ShowsRun names m s plan before after old new shown.answer (string_bytes shown.text)
  end_shown (end.Narrow need have) shown ran narrow says = answered (Narrow need have) _ shown says (λ t is. narrow_shows need have t ran narrow is)
  end_shown (end.TargetFault lane action call book) shown ran narrow says =
      answered (TargetFault lane action call) _ shown says (λ t is. failed_shows lane action call book t ran narrow is)
  end_shown (end.BodyTrap lane action kind book) shown ran narrow says =
      answered (BodyTrap lane action kind) _ shown says (λ t is. trapped_shows lane action kind book t ran narrow is)
  end_shown end.NoMemory shown ran narrow says = absurd says

  -- the calls that a run made
  pub made_in : (r : Result View RunEnd) → RunsAlone m s plan before after old new r → (made : List Answered) × (after ≡ with_calls before made)
  made_in (Ok book) (ran, same) = (ran.made, ran.calls)
  made_in (Err (end.Narrow need have)) (wide, one, calls, same) = ([], calls ∙ sym (with_none before))
  made_in (Err (end.TargetFault lane action call book)) (first, failed, risen) = (failed.ran.made, failed.ran.calls)
  made_in (Err (end.BodyTrap lane action kind book)) (first, ran, same) = (ran.made, ran.calls)
  made_in (Err end.NoMemory) (made, calls, same) = (made, calls)

  pub whole_shows : {E : Type 0} (book : View) (r : Result ShownRun E) → RunsAlone m s plan before after old new (Ok book) → (IsNarrow (Ok book) ↔ (1 < widest plan.groups))
      → IfOk r (Says (Done (length s.actions)) (trace_text names m s book.trace last.Done)) → Shows names m s plan before after old new r
  whole_shows book (Ok shown) ran narrow says = whole_shown book shown ran narrow says
  whole_shows book (Err e) ran narrow says = made_in (Ok book) ran

  pub end_shows : {E : Type 0} (stop : RunEnd) (r : Result ShownRun E) → RunsAlone m s plan before after old new (Err stop) → (IsNarrow (Err stop) ↔ (1 < widest plan.groups))
      → IfOk r (SaysEnd names m s stop) → Shows names m s plan before after old new r
  end_shows stop (Ok shown) ran narrow says = end_shown stop shown ran narrow says
  end_shows stop (Err e) ran narrow says = made_in (Err stop) ran

-- a run that wasn't whole isn't said to be
pub end_not_done : (names : List (List ℕ)) (m : ModelTree) (s : Scenario) (stop : RunEnd) (shown : ShownRun) → SaysEnd names m s stop shown → (actions : ℕ) → shown.answer ≡ Done actions → ⊥
end_not_done names m s (end.Narrow need have) shown says actions is = let e : Narrow need have ≡ Done actions = sym says.answer_is ∙ is in cc
end_not_done names m s (end.TargetFault lane action call book) shown says actions is = let e : TargetFault lane action call ≡ Done actions = sym says.answer_is ∙ is in cc
end_not_done names m s (end.BodyTrap lane action kind book) shown says actions is = let e : BodyTrap lane action kind ≡ Done actions = sym says.answer_is ∙ is in cc
end_not_done names m s end.NoMemory shown says actions is = absurd says
