-- Replies to a scenario that was found.
use Rattle.std.proofs.Common.{◌≡◌, ◌<◌, ◌≤◌, ◌*◌, ◌^◌, ℕ, List, [], ◌∷◌, length, codes, refl, sym, ap, subst, ◌∙◌, arith}
use Rattle.std.specs.Prelude.{◌↔◌, Result, Ok, Err, IfOk, string_bytes}
use Rattle.std.proofs.lemmas.List.Elements.{All-nil, All-cons, All-weaker}
use Rattle.pst_base.specs.declared.memory.NoMemory.{NoMemory}
use Rattle.pst_model.specs.ModelTree.{ModelTree}
use Rattle.pst_scen.specs.declared.scenario.Scenario.{Scenario}
use Rattle.pst_scen.specs.declared.event.Event.{Event}
use Rattle.pst_scen.specs.Plan.{Entries, widest}
use Rattle.pst_book.specs.Books.{View}
use Rattle.pst_exec.specs.declared.ending.RunEnd.{RunEnd}
use Rattle.pst_exec.specs.Alone.{RunsAlone, IsNarrow}
use Rattle.pst_trace_texts.specs.declared.last.Last.TheVariants as last
use Rattle.pst_trace_texts.specs.Texts.{trace_text}
use Rattle.pst_run_alone.specs.declared.answer.RunAnswer.TheVariants as ran
use Rattle.pst_run_alone.specs.declared.answer.ShownRun.{ShownRun}
use Rattle.pst_run_alone.specs.Lanes.{Lane, IsUncalled, HasMade, AreUncalled, HaveMade}
use Rattle.pst_run_alone.specs.Shown.{ShowsRun}
use Rattle.pst_run_alone.proofs.Shows.{with_none, end_shown, end_not_done, made_in}
use Rattle.pst_generated.specs.Generated.{counts_text}
use Rattle.pst_addr.specs.declared.ask.Space.{Space}
use Rattle.pst_outcome.specs.declared.answer.Answer.{Answer}
use Rattle.pst_outcome.specs.declared.answer.Answer.TheVariants.{Done, Solved}
use Rattle.pst_outcome.specs.declared.reply.Reply.{Reply}
use Rattle.pst_outcome.specs.declared.task.Work.{Work}
use Rattle.pst_outcome.specs.declared.task.Work.TheVariants as work
use Rattle.pst_outcome.specs.Tasks.{FitsLanes}
use Rattle.pst_outcome.specs.Models.{OfScenario, IsRun, IsGenerated, IsSolved, IsJudged, IsPlacing, IsProgrammed, HasEnded, EndsElse, count_ended, answer_of_run, answer_of_places, answer_of_programs}
use Rattle.pst_model_answers.specs.Replies.{Says, Tells, TellsEnd, SaysCheck, SaysPlaces, SaysPrograms, Replies}

-- without a call no calls were made
pub none_made : (l : Lane) → IsUncalled l → HasMade l
none_made l none = ([], none.calls ∙ sym (with_none l.before))

pub all_made : (lanes : List Lane) → AreUncalled lanes → HaveMade lanes
all_made lanes none = All-weaker IsUncalled HasMade none_made lanes none

-- of one lane
pub one_uncalled : (l : Lane) → IsUncalled l → AreUncalled (l ∷ [])
one_uncalled l none = All-cons IsUncalled l [] none (All-nil IsUncalled)

-- a right answer was said
pub said : (R : Answer → List ℕ → Type 0) (answer : Answer) (text : List ℕ) (reply : Reply) → R answer text → Says answer text reply → R reply.answer (string_bytes reply.text)
said R answer text reply right says = subst (λ (a : Answer). R a (string_bytes reply.text)) (sym says.answer_is) (subst (λ (t : List ℕ). R answer t) (sym says.text_is) right)

module _ (names : List (List ℕ)) (m : ModelTree) (s : Scenario) (plan : Entries) (l : Lane) where
  -- ---- runs

  told : (done : Work) (trace : List ℕ) (shown : ShownRun) (reply : Reply) → OfScenario names m s plan trace (l ∷ []) done (answer_of_run shown.answer) (string_bytes shown.text) → Tells shown reply
      → OfScenario names m s plan trace (l ∷ []) done reply.answer (string_bytes reply.text)
  told done trace shown reply right tells =
      subst (λ (a : Answer). OfScenario names m s plan trace (l ∷ []) done a (string_bytes reply.text)) (sym tells.answer_is)
      (subst (λ (t : List ℕ). OfScenario names m s plan trace (l ∷ []) done (answer_of_run shown.answer) t) (sym tells.text_is) right)

  pub run_replied : (shown : ShownRun) (reply : Reply) → ShowsRun names m s plan l.before l.after l.faults_before l.faults_after shown.answer (string_bytes shown.text) → Tells shown reply
      → (trace : List ℕ) → OfScenario names m s plan trace (l ∷ []) (work.Run 1) reply.answer (string_bytes reply.text)
  run_replied shown reply shows tells trace = told (work.Run 1) trace shown reply (IsRun 1 l [] shown.answer (string_bytes shown.text) refl refl (All-nil IsUncalled) shows) tells

  -- ---- runs of generated models

  -- the trace of a whole run is short enough to be counted
  pub few_events : (book : View) (events : List Event) → RunsAlone m s plan l.before l.after l.faults_before l.faults_after (Ok book) → length events ≤ 2 * length book.scenario.actions → length s.actions < 2 ^ 31
      → length events < 2 ^ 32
  few_events book events (whole, same) fits small =
      let many : length book.scenario.actions ≡ length s.actions = ap (λ (x : Scenario). length x.actions) whole.is_of.scenario in
      omega (arith, many, fits, small)

  pub counts_replied : (size : ℕ) (book : View) (events : List Event) (r : Result Reply NoMemory) → RunsAlone m s plan l.before l.after l.faults_before l.faults_after (Ok book)
      → (IsNarrow (Ok book) ↔ (1 < widest plan.groups)) → events ≡ book.trace
      → IfOk r (Says (Done (length s.actions)) (counts_text size (count_ended names m s events (codes "make")) (count_ended names m s events (codes "take")) (length s.actions)))
      → (trace : List ℕ) → Replies names m s plan trace l (work.Generate size 1) r
  counts_replied size book events (Ok reply) (whole, same) narrow of says trace =
      said (OfScenario names m s plan trace (l ∷ []) (work.Generate size 1)) (Done (length s.actions)) _ reply
      (IsGenerated size 1 l [] (ran.Done (length s.actions)) _ refl refl (All-nil IsUncalled) (HasEnded book narrow.1 whole same))
      (subst (λ (es : List Event). Says (Done (length s.actions)) (counts_text size (count_ended names m s es (codes "make")) (count_ended names m s es (codes "take")) (length s.actions)) reply) of says)
  counts_replied size book events (Err e) whole narrow of says trace = made_in names m s plan l.before l.after l.faults_before l.faults_after (Ok book) whole

  pub end_replied : (size : ℕ) (stop : RunEnd) (r : Result Reply NoMemory) → RunsAlone m s plan l.before l.after l.faults_before l.faults_after (Err stop) → (IsNarrow (Err stop) ↔ (1 < widest plan.groups))
      → IfOk r (TellsEnd names m s stop) → (trace : List ℕ) → Replies names m s plan trace l (work.Generate size 1) r
  end_replied size stop (Ok reply) runs narrow (shown, says, tells) trace =
      told (work.Generate size 1) trace shown reply
      (IsGenerated size 1 l [] shown.answer (string_bytes shown.text) refl refl (All-nil IsUncalled)
      (EndsElse shown.answer (string_bytes shown.text) (end_shown names m s plan l.before l.after l.faults_before l.faults_after stop shown runs narrow says) (end_not_done names m s stop shown says)))
      tells
  end_replied size stop (Err e) runs narrow tells trace = made_in names m s plan l.before l.after l.faults_before l.faults_after (Err stop) runs

  -- ---- without a run

  pub solved_replied : (r : Result Reply NoMemory) → IsUncalled l → IfOk r (Says (Solved (length s.actions)) (trace_text names m s [] last.Solved)) → (trace : List ℕ) → Replies names m s plan trace l work.Solve r
  solved_replied (Ok reply) none says trace = said (OfScenario names m s plan trace (l ∷ []) work.Solve) (Solved (length s.actions)) _ reply (IsSolved (one_uncalled l none)) says
  solved_replied (Err e) none says trace = none_made l none

  pub check_replied : (trace : List ℕ) (r : Result Reply NoMemory) → IsUncalled l → IfOk r (SaysCheck names m s trace) → Replies names m s plan trace l work.Check r
  check_replied trace (Ok reply) none (answer, checked, says) = said (OfScenario names m s plan trace (l ∷ []) work.Check) _ _ reply (IsJudged answer (one_uncalled l none) checked) says
  check_replied trace (Err e) none says = none_made l none

  pub place_replied : (space : Space) (r : Result Reply NoMemory) → IsUncalled l → IfOk r (SaysPlaces names m s plan space) → (trace : List ℕ) → Replies names m s plan trace l (work.Place space) r
  place_replied space (Ok reply) none (answer, shows, answer_is) trace =
      subst (λ (a : Answer). OfScenario names m s plan trace (l ∷ []) (work.Place space) a (string_bytes reply.text)) (sym answer_is) (IsPlacing space answer (string_bytes reply.text) (one_uncalled l none) shows)
  place_replied space (Err e) none says trace = none_made l none

  pub static_replied : (over : ℕ) (r : Result Reply NoMemory) → IsUncalled l → IfOk r (SaysPrograms names m s plan over) → (trace : List ℕ) → Replies names m s plan trace l (work.Static over) r
  static_replied over (Ok reply) none (answer, shows, answer_is) trace =
      subst (λ (a : Answer). OfScenario names m s plan trace (l ∷ []) (work.Static over) a (string_bytes reply.text)) (sym answer_is) (IsProgrammed over answer (string_bytes reply.text) (one_uncalled l none) shows)
  static_replied over (Err e) none says trace = none_made l none

  -- what is done is that
  pub replied_as : (trace : List ℕ) (done other : Work) (r : Result Reply NoMemory) → done ≡ other → Replies names m s plan trace l other r → Replies names m s plan trace l done r
  replied_as trace done other r same replies = subst (λ (w : Work). Replies names m s plan trace l w r) (sym same) replies

  only_one : (lanes : ℕ) → (1 ≤ lanes) × (lanes ≤ 1) → lanes ≡ 1
  only_one lanes (low, high) = omega (arith, low, high)

  -- it is a run on one lane
  pub run_on_one : (trace : List ℕ) (done : Work) (lanes : ℕ) (r : Result Reply NoMemory) → done ≡ work.Run lanes → FitsLanes 1 done → Replies names m s plan trace l (work.Run 1) r
      → Replies names m s plan trace l done r
  run_on_one trace done lanes r is fits replies =
      replied_as trace done (work.Run 1) r (is ∙ ap (λ (n : ℕ). work.Run n) (only_one lanes (subst (FitsLanes 1) is fits))) replies

  pub generated_on_one : (trace : List ℕ) (done : Work) (size lanes : ℕ) (r : Result Reply NoMemory) → done ≡ work.Generate size lanes → FitsLanes 1 done
      → Replies names m s plan trace l (work.Generate size 1) r → Replies names m s plan trace l done r
  generated_on_one trace done size lanes r is fits replies =
      replied_as trace done (work.Generate size 1) r (is ∙ ap (λ (n : ℕ). work.Generate size n) (only_one lanes (subst (FitsLanes 1) is fits))) replies
