-- Replies to runs on several lanes.
use Rattle.std.proofs.Common.{◌≡◌, ◌∙◌, ◌≤◌, ◌<◌, ◌+◌, ◌-◌, ◌*◌, ◌^◌, ℕ, List, [], length, codes, ap, sym, subst, arith}
use Rattle.std.specs.Prelude.{◌↔◌, Option, Result, Ok, Err, IfOk, IfErr, drop, string_bytes}
use Rattle.std.proofs.lemmas.List.{drop-drop}
use Rattle.pst_base.specs.declared.memory.NoMemory.{NoMemory}
use Rattle.pst_target.specs.declared.call.Call.{Call as Answered}
use Rattle.pst_model.specs.ModelTree.{ModelTree}
use Rattle.pst_scen.specs.declared.event.Event.{Event}
use Rattle.pst_scen.specs.declared.scenario.Scenario.{Scenario}
use Rattle.pst_scen.specs.Plan.{Entries, widest}
use Rattle.pst_scen.specs.Laws.{PrefixesAreLegal}
use Rattle.pst_book.specs.Books.{View}
use Rattle.pst_exec.specs.declared.ending.RunEnd.{RunEnd}
use Rattle.pst_exec.specs.Alone.{IsNarrow}
use Rattle.pst_run_alone.specs.declared.answer.RunAnswer.TheVariants as ran
use Rattle.pst_run_alone.specs.declared.answer.ShownRun.{ShownRun}
use Rattle.pst_run_alone.specs.Lanes.{Lane, AreUncalled, HaveMade, lanes_told}
use Rattle.pst_run_alone.proofs.Shows.{end_not_done}
use Rattle.pst_generated.specs.Generated.{counts_text}
use Rattle.pst_outcome.specs.declared.answer.Answer.{Answer}
use Rattle.pst_outcome.specs.declared.answer.Answer.TheVariants.{Done}
use Rattle.pst_outcome.specs.declared.reply.Reply.{Reply}
use Rattle.pst_outcome.specs.declared.task.Task.{Task}
use Rattle.pst_outcome.specs.declared.task.Work.{Work}
use Rattle.pst_outcome.specs.declared.task.Work.TheVariants as work
use Rattle.pst_outcome.specs.Tasks.{FitsLanes, IsSeveral}
use Rattle.pst_outcome.specs.SharedRuns.{ShowsSharedRun}
use Rattle.pst_outcome.specs.Models.{IsSought, OfModel, IsFound, OfScenario, IsSharedRun, IsSharedGenerated, HaveEnded, EndElse, count_ended, answer_of_run}
use Rattle.pst_model_answers.specs.PassedOn.{SearchEnd}
use Rattle.pst_model_answers.specs.PassedOn.{Searches}
use Rattle.pst_model_answers.specs.Replies.{Says, SaysEnd, Tells, TellsEnd}
use Rattle.pst_model_answers.proofs.Runs.{said, all_made}
use Rattle.pst_model_answers.proofs.Owed.{end_owed}
use Rattle.pst_workers.specs.Told.{told_of}
use Rattle.pst_run_many.specs.Many.{RunsMany}
use Rattle.pst_shared_answers.specs.Replies.{RepliesOn, TellsWhole}
use Rattle.pst_shared_answers.proofs.Shared.{whole_run, whole_shown, end_shown, made_in}

module _ {T : Type 0} (calls : T → Option (List Answered)) (faults : T → ℕ) (names : List (List ℕ)) (m : ModelTree) (s : Scenario) (plan : Entries) (count : ℕ)
    (was now : List T) (several : 2 ≤ count) (enough : count ≤ length was) (many : length now ≡ length was) (rest : drop count now ≡ drop count was) (laws : PrefixesAreLegal) where
  told : (done : Work) (trace : List ℕ) (shown : ShownRun) (reply : Reply) → OfScenario names m s plan trace (lanes_told calls faults was now) done (answer_of_run shown.answer) (string_bytes shown.text) → Tells shown reply
      → OfScenario names m s plan trace (lanes_told calls faults was now) done reply.answer (string_bytes reply.text)
  told done trace shown reply right tells =
      subst (λ (a : Answer). OfScenario names m s plan trace (lanes_told calls faults was now) done a (string_bytes reply.text)) (sym tells.answer_is)
      (subst (λ (t : List ℕ). OfScenario names m s plan trace (lanes_told calls faults was now) done (answer_of_run shown.answer) t) (sym tells.text_is) right)

  -- ---- traces

  of_run : (shown : ShownRun) (reply : Reply) → ShowsSharedRun names m s plan count (lanes_told calls faults was now) shown.answer (string_bytes shown.text) → Tells shown reply
      → (trace : List ℕ) → OfScenario names m s plan trace (lanes_told calls faults was now) (work.Run count) reply.answer (string_bytes reply.text)
  of_run shown reply shows tells trace = told (work.Run count) trace shown reply (IsSharedRun count shown.answer (string_bytes shown.text) (omega (arith, several)) shows) tells

  pub run_whole : (book : View) (r : Result Reply NoMemory) → RunsMany m s plan count (told_of calls faults was) (told_of calls faults now) (Ok book) → (IsNarrow (Ok book) ↔ (count < widest plan.groups))
      → IfOk r (TellsWhole names m s book.trace) → (trace : List ℕ) → RepliesOn names m s plan trace (lanes_told calls faults was now) (work.Run count) r
  run_whole book (Ok reply) runs narrow (shown, says, tells) trace =
      of_run shown reply (whole_shown calls faults names m s plan count was now enough many rest laws book shown runs narrow says) tells trace
  run_whole book (Err e) runs narrow tells trace = made_in calls faults names m s plan count was now enough many rest laws (Ok book) runs

  pub run_stopped : (stop : RunEnd) (r : Result Reply NoMemory) → RunsMany m s plan count (told_of calls faults was) (told_of calls faults now) (Err stop) → (IsNarrow (Err stop) ↔ (count < widest plan.groups))
      → IfOk r (TellsEnd names m s stop) → (trace : List ℕ) → RepliesOn names m s plan trace (lanes_told calls faults was now) (work.Run count) r
  run_stopped stop (Ok reply) runs narrow (shown, says, tells) trace = of_run shown reply (end_shown calls faults names m s plan count was now enough many rest laws stop shown runs narrow says) tells trace
  run_stopped stop (Err e) runs narrow tells trace = made_in calls faults names m s plan count was now enough many rest laws (Err stop) runs

  -- ---- counts

  pub few_events : (book : View) (events : List Event) → RunsMany m s plan count (told_of calls faults was) (told_of calls faults now) (Ok book) → length events ≤ 2 * length book.scenario.actions → length s.actions < 2 ^ 31
      → length events < 2 ^ 32
  few_events book events whole fits small =
      let same : length book.scenario.actions ≡ length s.actions = ap (λ (x : Scenario). length x.actions) whole.is_of.scenario in
      omega (arith, same, fits, small)

  pub counts_whole : (size : ℕ) (book : View) (events : List Event) (r : Result Reply NoMemory) → RunsMany m s plan count (told_of calls faults was) (told_of calls faults now) (Ok book)
      → (IsNarrow (Ok book) ↔ (count < widest plan.groups)) → events ≡ book.trace
      → IfOk r (Says (Done (length s.actions)) (counts_text size (count_ended names m s events (codes "make")) (count_ended names m s events (codes "take")) (length s.actions)))
      → (trace : List ℕ) → RepliesOn names m s plan trace (lanes_told calls faults was now) (work.Generate size count) r
  counts_whole size book events (Ok reply) whole narrow of says trace =
      said (OfScenario names m s plan trace (lanes_told calls faults was now) (work.Generate size count)) (Done (length s.actions)) _ reply
      (IsSharedGenerated size count (ran.Done (length s.actions)) _ (omega (arith, several)) (HaveEnded book.trace narrow.1 (whole_run calls faults names m s plan count was now enough many rest laws book whole)))
      (subst (λ (es : List Event). Says (Done (length s.actions)) (counts_text size (count_ended names m s es (codes "make")) (count_ended names m s es (codes "take")) (length s.actions)) reply) of says)
  counts_whole size book events (Err e) whole narrow of says trace = made_in calls faults names m s plan count was now enough many rest laws (Ok book) whole

  pub counts_stopped : (size : ℕ) (stop : RunEnd) (r : Result Reply NoMemory) → RunsMany m s plan count (told_of calls faults was) (told_of calls faults now) (Err stop) → (IsNarrow (Err stop) ↔ (count < widest plan.groups))
      → IfOk r (TellsEnd names m s stop) → (trace : List ℕ) → RepliesOn names m s plan trace (lanes_told calls faults was now) (work.Generate size count) r
  counts_stopped size stop (Ok reply) runs narrow (shown, says, tells) trace =
      told (work.Generate size count) trace shown reply
      (IsSharedGenerated size count shown.answer (string_bytes shown.text) (omega (arith, several))
      (EndElse shown.answer (string_bytes shown.text) (end_shown calls faults names m s plan count was now enough many rest laws stop shown runs narrow says) (end_not_done names m s stop shown says)))
      tells
  counts_stopped size stop (Err e) runs narrow tells trace = made_in calls faults names m s plan count was now enough many rest laws (Err stop) runs

-- ---- which lanes a task asks for

-- several, and no more than there may be
pub several_run : (n : ℕ) (w : Work) → w ≡ work.Run n → IsSeveral w → FitsLanes 16 w → (2 ≤ n) × (n ≤ 16)
several_run n w is several fits =
    let many : 1 < n = subst IsSeveral is several in
    let low : (1 ≤ n) × (n ≤ 16) = subst (FitsLanes 16) is fits in
    (omega (arith, many), low.1)

pub enough_run : (n have : ℕ) (w : Work) → w ≡ work.Run n → FitsLanes have w → n ≤ have
enough_run n have w is fits = let low : (1 ≤ n) × (n ≤ have) = subst (FitsLanes have) is fits in low.1

pub several_generated : (size n : ℕ) (w : Work) → w ≡ work.Generate size n → IsSeveral w → FitsLanes 16 w → (2 ≤ n) × (n ≤ 16)
several_generated size n w is several fits =
    let many : 1 < n = subst IsSeveral is several in
    let low : (1 ≤ n) × (n ≤ 16) = subst (FitsLanes 16) is fits in
    (omega (arith, many), low.1)

pub enough_generated : (size n have : ℕ) (w : Work) → w ≡ work.Generate size n → FitsLanes have w → n ≤ have
enough_generated size n have w is fits = let low : (1 ≤ n) × (n ≤ have) = subst (FitsLanes have) is fits in low.1

-- lanes behind more than were used are those behind all that were used
pub behind_all : {T : Type 0} (n : ℕ) (was now : List T) → n ≤ 16 → drop n now ≡ drop n was → drop 16 now ≡ drop 16 was
behind_all n was now few same =
    let all : n + (16 - n) ≡ 16 = omega (arith, few) in
    sym (cut all now) ∙ ap (drop (16 - n)) same ∙ cut all was
  where
    cut : {T : Type 0} → n + (16 - n) ≡ 16 → (xs : List T) → drop (16 - n) (drop n xs) ≡ drop 16 xs
    cut all xs = drop-drop (16 - n) n xs ∙ ap (λ (k : ℕ). drop k xs) all

-- ---- models

-- a task that asks for several lanes asks for a scenario
sought : (w : Work) → IsSeveral w → IsSought w
sought (work.Run lanes) several = tt
sought work.Solve several = absurd several
sought work.Check several = absurd several
sought (work.Generate size lanes) several = tt
sought (work.Place space) several = absurd several
sought (work.Static over) several = absurd several
sought (work.Sweep first count) several = absurd several

module _ (names : List (List ℕ)) (m : ModelTree) (root : ℕ) (task : Task) (told : List Lane) where
  pub found_owed : (s : Scenario) (plan : Entries) (r : Result Reply NoMemory) → Searches m root task.seed task.infer task.budget (Ok (s, plan)) → ((trace : List ℕ) → RepliesOn names m s plan trace told task.work r)
      → (trace : List ℕ) → IfOk r (λ reply. OfModel names m root task trace told reply.answer (string_bytes reply.text))
  found_owed s plan (Ok reply) (first, planned) replies trace = IsFound s plan reply.answer (string_bytes reply.text) first planned (replies trace)
  found_owed s plan (Err e) found replies trace = tt

  pub found_made : (s : Scenario) (plan : Entries) (r : Result Reply NoMemory) → ((trace : List ℕ) → RepliesOn names m s plan trace told task.work r) → IfErr r (λ e. HaveMade told)
  found_made s plan (Ok reply) replies = tt
  found_made s plan (Err e) replies = replies []

  pub unfound_owed : (end : SearchEnd) (r : Result Reply NoMemory) → IsSeveral task.work → AreUncalled told → Searches m root task.seed task.infer task.budget (Err end) → IfOk r (SaysEnd task.infer end)
      → (trace : List ℕ) → IfOk r (λ reply. OfModel names m root task trace told reply.answer (string_bytes reply.text))
  unfound_owed end r several none ends says trace = end_owed names m root task trace told end r (sought task.work several) none ends says

pub unfound_made : {E : Type 0} (told : List Lane) (r : Result Reply E) → AreUncalled told → IfErr r (λ e. HaveMade told)
unfound_made told (Ok reply) none = tt
unfound_made told (Err e) none = all_made told none
