-- From how a run on several lanes ended to what is answered of it.
use Rattle.std.proofs.Common.{◌≡◌, ◌≤◌, ◌<◌, ℕ, Bool, true, false, nat_lt, List, length, get_or, refl, sym, subst, arith}
use Rattle.std.specs.Prelude.{◌↔◌, Option, Result, Ok, Err, drop, string_bytes}
use Rattle.std.proofs.lemmas.Bool.{ltb-true, ltb-false}
use Rattle.pst_target.specs.declared.call.Call.{Call as Answered}
use Rattle.pst_model.specs.ModelTree.{ModelTree}
use Rattle.pst_scen.specs.declared.event.Event.{Event}
use Rattle.pst_scen.specs.declared.scenario.Scenario.{Scenario}
use Rattle.pst_scen.specs.Plan.{Entries, widest}
use Rattle.pst_scen.specs.Laws.{PrefixesAreLegal}
use Rattle.pst_book.specs.Books.{View}
use Rattle.pst_lanes.specs.Lanes.{starts_on, ends_on}
use Rattle.pst_exec.specs.declared.ending.RunEnd.{RunEnd}
use Rattle.pst_exec.specs.declared.ending.RunEnd.TheVariants as end
use Rattle.pst_exec.specs.Alone.{IsNarrow}
use Rattle.pst_trace_texts.specs.declared.last.Last.TheVariants as last
use Rattle.pst_trace_texts.specs.Texts.{trace_text}
use Rattle.pst_run_alone.specs.declared.answer.RunAnswer.{RunAnswer}
use Rattle.pst_run_alone.specs.declared.answer.RunAnswer.TheVariants.{Done, Narrow, TargetFault, BodyTrap}
use Rattle.pst_run_alone.specs.declared.answer.ShownRun.{ShownRun}
use Rattle.pst_run_alone.specs.Lanes.{Lane, HasMade, HaveMade, lanes_told}
use Rattle.pst_run_alone.specs.Shown.{Says, SaysEnd, narrow_text}
use Rattle.pst_workers.specs.Told.{Told, told_of, lane_at, LaneRan}
use Rattle.pst_run_many.specs.Many.{RunsOn as RunsThere, LaneFailed, LaneTrapped, LaneStopped, HasRan, HasFailed, HasTrapped, RanWholeOn, StoppedOn, KeptCalls, RunsMany}
use Rattle.pst_outcome.specs.SharedRuns.{Break, Failed, Trapped, HasRun, HasBroken, AtCall, InTrap, RunsOn, HasStopped, BetweenBodies, InBody, AreUncalledFrom, HaveRun, HaveStopped, ShowsSharedRun, IsTooWide, EndsWhole, EndsEarly}
use Rattle.pst_model_answers.proofs.Runs.{none_made, all_made}
use Rattle.pst_shared_answers.proofs.Told.{between, told_at, none_called_behind, same_told}

-- ---- one lane

module _ (m : ModelTree) (s : Scenario) where
  ran : (actions : List ℕ) (before after : Told) → LaneRan m s actions before after → HasRun m s actions (between before after)
  ran actions before after h = record { made = h.made; calls = h.calls; runs = h.runs; count = h.faults }

  failed : (actions : List ℕ) (action call : ℕ) (before after : Told) → LaneFailed m s actions action call before after → HasBroken m s actions action (between before after) (Failed call)
  failed actions action call before after h =
      AtCall h.function h.arguments call (record { made = h.ran.made; calls = h.ran.calls; runs = h.ran.runs }) h.number h.faults

  trapped : (actions : List ℕ) (action kind : ℕ) (before after : Told) → LaneTrapped m s actions action kind before after → HasBroken m s actions action (between before after) (Trapped kind)
  trapped actions action kind before after h = InTrap kind (record { made = h.ran.made; calls = h.ran.calls; runs = h.ran.runs }) h.faults

  there : (trace : List Event) (number action : ℕ) → RunsThere trace number action → RunsOn trace number action
  there trace number action h = record { starts = h.starts; running = h.running }

  stopped : (trace : List Event) (number : ℕ) (before after : Told) → LaneStopped m s trace number before after → HasStopped m s trace number (between before after)
  stopped trace number before after (HasRan h) = BetweenBodies (ran (ends_on number trace) before after h)
  stopped trace number before after (HasFailed action call runs h) = InBody action (Failed call) (there trace number action runs) (failed (ends_on number trace) action call before after h)
  stopped trace number before after (HasTrapped action kind runs h) = InBody action (Trapped kind) (there trace number action runs) (trapped (ends_on number trace) action kind before after h)

made_kept : (before after : Told) → KeptCalls before after → HasMade (between before after)
made_kept before after h = (h.made, h.calls)

-- ---- all lanes

module _ {T : Type 0} (calls : T → Option (List Answered)) (faults : T → ℕ) (names : List (List ℕ)) (m : ModelTree) (s : Scenario) (plan : Entries) (count : ℕ)
    (was now : List T) (enough : count ≤ length was) (many : length now ≡ length was) (rest : drop count now ≡ drop count was) (laws : PrefixesAreLegal) where
  others : AreUncalledFrom count (lanes_told calls faults was now)
  others = none_called_behind calls faults count was now rest many

  -- what holds of what a lane of the run told and tells holds of the lane
  at : (P : Lane → Type 0) (k : ℕ) (d : Lane) → k < count → P (between (lane_at (told_of calls faults was) k) (lane_at (told_of calls faults now) k)) → P (get_or (lanes_told calls faults was now) k d)
  at P k d below h = subst P (sym (told_at calls faults was now k d (omega (arith, below, enough)) many)) h

  pub whole_run : (book : View) → RanWholeOn m s plan count (told_of calls faults was) (told_of calls faults now) book → HaveRun m s count book.trace (lanes_told calls faults was now)
  whole_run book h = record {
    core = h.is_of.core;
    legal = laws s count book.trace h.is_of.prefix;
    whole = h.whole;
    each = λ k d below. at (HasRun m s (starts_on k book.trace)) k d below (ran m s (starts_on k book.trace) _ _ (h.lanes k below));
    others = others;
  }

  pub part_run : (book : View) (number action : ℕ) (break : Break) → StoppedOn m s plan count (told_of calls faults was) (told_of calls faults now) number action book
      → HasBroken m s (ends_on number book.trace) action (between (lane_at (told_of calls faults was) number) (lane_at (told_of calls faults now) number)) break
      → HaveStopped m s count book.trace (lanes_told calls faults was now) number action break
  part_run book number action break h broke =
      let inside = h.inside in record {
        core = h.is_of.core;
        prefix = h.is_of.prefix;
        inside = h.inside;
        runs = there m s book.trace number action h.runs;
        here = λ d. at (λ l. HasBroken m s (ends_on number book.trace) action l break) number d h.inside broke;
        below = λ k d low. at (HasRun m s (ends_on k book.trace)) k d (omega (arith, low, inside)) (ran m s (ends_on k book.trace) _ _ (h.below k low));
        above = λ k d high below. at (HasStopped m s book.trace k) k d below (stopped m s book.trace k _ _ (h.lanes k below));
        others = others;
      }

  -- ---- what is shown

  shown_as : (answer : RunAnswer) (text : List ℕ) (shown : ShownRun) → Says answer text shown → ShowsSharedRun names m s plan count (lanes_told calls faults was now) answer text
      → ShowsSharedRun names m s plan count (lanes_told calls faults was now) shown.answer (string_bytes shown.text)
  shown_as answer text shown says right =
      subst (λ (a : RunAnswer). ShowsSharedRun names m s plan count (lanes_told calls faults was now) a (string_bytes shown.text)) (sym says.answer_is)
      (subst (λ (t : List ℕ). ShowsSharedRun names m s plan count (lanes_told calls faults was now) answer t) (sym says.text_is) right)

  pub whole_shown : (book : View) (shown : ShownRun) → RunsMany m s plan count (told_of calls faults was) (told_of calls faults now) (Ok book) → (IsNarrow (Ok book) ↔ (count < widest plan.groups))
      → Says (Done (length s.actions)) (trace_text names m s book.trace last.Done) shown → ShowsSharedRun names m s plan count (lanes_told calls faults was now) shown.answer (string_bytes shown.text)
  whole_shown book shown runs narrow says = shown_as (Done (length s.actions)) _ shown says (EndsWhole book.trace narrow.1 (whole_run book runs))

  pub end_shown : (stop : RunEnd) (shown : ShownRun) → RunsMany m s plan count (told_of calls faults was) (told_of calls faults now) (Err stop) → (IsNarrow (Err stop) ↔ (count < widest plan.groups))
      → SaysEnd names m s stop shown → ShowsSharedRun names m s plan count (lanes_told calls faults was now) shown.answer (string_bytes shown.text)
  end_shown (end.Narrow need have) shown (need_is, have_is, same) narrow says =
      shown_as (Narrow need have) (narrow_text need have) shown says
      (subst (λ (n : ℕ). ShowsSharedRun names m s plan count (lanes_told calls faults was now) (Narrow n have) (narrow_text n have)) (sym need_is)
      (subst (λ (n : ℕ). ShowsSharedRun names m s plan count (lanes_told calls faults was now) (Narrow (widest plan.groups) n) (narrow_text (widest plan.groups) n)) (sym have_is)
      (IsTooWide (narrow.0 tt) (same_told calls faults was now same))))
  end_shown (end.TargetFault lane action call book) shown (h, broke) narrow says =
      shown_as (TargetFault lane action call) _ shown says
      (EndsEarly book.trace lane action (Failed call) narrow.1 (part_run book lane action (Failed call) h (failed m s (ends_on lane book.trace) action call _ _ broke)))
  end_shown (end.BodyTrap lane action kind book) shown (h, broke) narrow says =
      shown_as (BodyTrap lane action kind) _ shown says
      (EndsEarly book.trace lane action (Trapped kind) narrow.1 (part_run book lane action (Trapped kind) h (trapped m s (ends_on lane book.trace) action kind _ _ broke)))
  end_shown end.NoMemory shown runs narrow says = absurd says

  -- ---- the calls that a run made

  each_made : ((k : ℕ) → k < count → HasMade (between (lane_at (told_of calls faults was) k) (lane_at (told_of calls faults now) k))) → HaveMade (lanes_told calls faults was now)
  each_made made = λ k d inside. by k d inside (nat_lt k count) refl
    where
      by : (k : ℕ) (d : Lane) → k < length (lanes_told calls faults was now) → (b : Bool) → nat_lt k count ≡ b → HasMade (get_or (lanes_told calls faults was now) k d)
      by k d inside true is = let below : k < count = ltb-true k count is in at HasMade k d below (made k below)
      by k d inside false is = none_made (get_or (lanes_told calls faults was now) k d) (others k d (ltb-false k count is) inside)

  broke_made : (trace : List Event) (number : ℕ) (before after : Told) → LaneStopped m s trace number before after → HasMade (between before after)
  broke_made trace number before after (HasRan h) = (h.made, h.calls)
  broke_made trace number before after (HasFailed action call runs h) = (h.ran.made, h.ran.calls)
  broke_made trace number before after (HasTrapped action kind runs h) = (h.ran.made, h.ran.calls)

  pub made_in : (r : Result View RunEnd) → RunsMany m s plan count (told_of calls faults was) (told_of calls faults now) r → HaveMade (lanes_told calls faults was now)
  made_in (Ok book) h = each_made (λ k below. let l = h.lanes k below in (l.made, l.calls))
  made_in (Err (end.Narrow need have)) (need_is, have_is, same) = all_made (lanes_told calls faults was now) (same_told calls faults was now same)
  made_in (Err (end.TargetFault lane action call book)) (h, broke) = each_made (λ k below. broke_made book.trace k _ _ (h.lanes k below))
  made_in (Err (end.BodyTrap lane action kind book)) (h, broke) = each_made (λ k below. broke_made book.trace k _ _ (h.lanes k below))
  made_in (Err end.NoMemory) h = each_made (λ k below. made_kept _ _ (h k below))
