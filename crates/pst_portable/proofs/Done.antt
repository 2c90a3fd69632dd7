-- From what is answered to a request to right answers.
use Rattle.std.proofs.Common.{◌≡◌, ◌∙◌, ℕ, ◌-◌, ◌^◌, ◌<◌, ◌≤◌, List, [], ◌∷◌, length, drop, nat_eq, slice_index_or, slice_set, refl, ap, sym, subst, arith}
use Rattle.std.specs.Prelude.{Option, Result, Ok, Err, IfOk, IfErr, string_bytes}
use Rattle.std.specs.List.{count_by}
use Rattle.std.proofs.lemmas.List.{drop-drop}
use Rattle.std.proofs.lemmas.List.Sums.{count_by-le-length}
use Rattle.std.proofs.lemmas.List.Elements.{All-nil, All-cons, All-head}
use Rattle.pst_base.specs.declared.memory.NoMemory.{NoMemory}
use Rattle.pst_io.specs.Shelf.{Files}
use Rattle.pst_target.specs.declared.call.Call.{Call as Answered}
use Rattle.pst_model.specs.ModelTree.{ModelTree}
use Rattle.pst_scen.specs.declared.scenario.Scenario.{Scenario}
use Rattle.pst_scen.specs.Plan.{Entries}
use Rattle.pst_run_alone.specs.Lanes.{Lane, lane, IsUncalled, HasMade, AreUncalled, HaveMade, lanes_told}
use Rattle.pst_run_alone.specs.Shown.{ShowsRun}
use Rattle.pst_words.specs.declared.command.Command.{Command}
use Rattle.pst_words.specs.declared.command.Lines.{Lines}
use Rattle.pst_words.specs.Lines.{IsLine, IsWrongWord}
use Rattle.pst_files_read.specs.Limits.{most_trace}
use Rattle.pst_outcome.specs.declared.answer.Answer.{Answer}
use Rattle.pst_outcome.specs.declared.answer.Answer.TheVariants as answer
use Rattle.pst_outcome.specs.declared.reply.Reply.{Reply}
use Rattle.pst_outcome.specs.declared.task.Task.{Task}
use Rattle.pst_outcome.specs.declared.task.Work.{Work}
use Rattle.pst_outcome.specs.Texts.{usage_text}
use Rattle.pst_outcome.specs.Tasks.{FitsLanes}
use Rattle.pst_outcome.specs.Sources.{Front, Ends, HasModel}
use Rattle.pst_outcome.specs.Models.{OfScenario, IsRun, IsSharedRun, IsGenerated, IsSharedGenerated, IsSolved, IsJudged, IsPlacing, IsProgrammed, ShowsCounts, OfModel, HasNone, IsSpent, IsFound, IsSwept}
use Rattle.pst_outcome.specs.Outcome.{IsOwed, IsUsage, EndsAtFiles, EndsAtSources, IsServed, HasFront, bytes_of}
use Rattle.pst_shared_answers.proofs.PassedOn.{all_made}
use Rattle.pst_front.specs.declared.front.LineFront.{LineFront}
use Rattle.pst_front.specs.Stages.{front_of, IsStage, OfLine, AtFiles, BehindFiles}
use Rattle.pst_portable.specs.declared.request.Request.{Request}
use Rattle.pst_portable.specs.declared.request.Request.TheVariants as request
use Rattle.pst_portable.specs.Replies.{IsDone}
use Rattle.pst_portable.specs.Requests.{SaysUsage, IsServable, IsAnswered, IsRequest}

-- a trace file that is small has few lines
pub few_lines : (trace : List ℕ) → length trace ≤ most_trace → count_by (nat_eq 10) trace < 2 ^ 32 - 2
few_lines trace small = let few = count_by-le-length (nat_eq 10) trace in omega (arith, few, small)

-- ---- lanes

pub none_called : {T : Type 0} (calls : T → Option (List Answered)) (faults : T → ℕ) (lanes : List T) → AreUncalled (lanes_told calls faults lanes lanes)
none_called calls faults [] = All-nil IsUncalled
none_called calls faults (x ∷ more) =
    All-cons IsUncalled (lane (calls x) (calls x) (faults x) (faults x)) (lanes_told calls faults more more) (record { calls = refl; count = refl }) (none_called calls faults more)

-- lanes behind the first are as they were, and so are those behind the sixteenth
pub behind_first : {T : Type 0} (was now : List T) → drop 1 now ≡ drop 1 was → drop 16 now ≡ drop 16 was
behind_first was now same = sym (drop-drop 15 1 now) ∙ ap (drop 15) same ∙ drop-drop 15 1 was

pub one_made : (l : Lane) → HasMade l → HaveMade (l ∷ [])
one_made l made = All-cons HasMade l [] made (All-nil HasMade)

-- beside a lane on which calls may have been made
pub made_beside : (l : Lane) (others : List Lane) → HasMade l → AreUncalled others → HaveMade (l ∷ others)
made_beside l others made none = All-cons HasMade l others made (all_made others none)

module _ (l : Lane) (others : List Lane) (none : AreUncalled others) where
  beside : AreUncalled (l ∷ []) → AreUncalled (l ∷ others)
  beside calm = All-cons IsUncalled l others (All-head IsUncalled l [] calm) none

  same_lane : (k : Lane) (ks : List Lane) → l ∷ [] ≡ k ∷ ks → k ≡ l
  same_lane k ks is = cc

  too_many : (count : ℕ) (w : Work) → 1 < count → (1 ≤ count) × (count ≤ 1) → ⊥
  too_many count w several (low, high) = omega (arith, several, high)

  -- what is answered on one lane is answered beside others that aren't called
  scenario_beside : (names : List (List ℕ)) (m : ModelTree) (s : Scenario) (plan : Entries) (trace : List ℕ) (w : Work) (a : Answer) (t : List ℕ) → FitsLanes 1 w
      → OfScenario names m s plan trace (l ∷ []) w a t → OfScenario names m s plan trace (l ∷ others) w a t
  scenario_beside names m s plan trace _ _ _ fits (IsRun n k ks a t one is calm h) =
      IsRun n l others a t one refl none (subst (λ (z : Lane). ShowsRun names m s plan z.before z.after z.faults_before z.faults_after a t) (same_lane k ks is) h)
  scenario_beside names m s plan trace w _ _ fits (IsSharedRun n a t several h) = absurd (too_many n w several fits)
  scenario_beside names m s plan trace _ _ _ fits (IsGenerated size n k ks a t one is calm h) =
      IsGenerated size n l others a t one refl none (subst (λ (z : Lane). ShowsCounts names m s plan size z a t) (same_lane k ks is) h)
  scenario_beside names m s plan trace w _ _ fits (IsSharedGenerated size n a t several h) = absurd (too_many n w several fits)
  scenario_beside names m s plan trace _ _ _ fits (IsSolved calm) = IsSolved (beside calm)
  scenario_beside names m s plan trace _ _ _ fits (IsJudged a calm h) = IsJudged a (beside calm) h
  scenario_beside names m s plan trace _ _ _ fits (IsPlacing space a t calm h) = IsPlacing space a t (beside calm) h
  scenario_beside names m s plan trace _ _ _ fits (IsProgrammed over a t calm h) = IsProgrammed over a t (beside calm) h

  model_beside : (names : List (List ℕ)) (m : ModelTree) (root : ℕ) (task : Task) (trace : List ℕ) (a : Answer) (t : List ℕ) → FitsLanes 1 task.work
      → OfModel names m root task trace (l ∷ []) a t → OfModel names m root task trace (l ∷ others) a t
  model_beside names m root task trace _ _ fits (HasNone sought calm h) = HasNone sought (beside calm) h
  model_beside names m root task trace _ _ fits (IsSpent level sought calm low h) = IsSpent level sought (beside calm) low h
  model_beside names m root task trace _ _ fits (IsFound s plan a t first planned h) = IsFound s plan a t first planned (scenario_beside names m s plan trace task.work a t fits h)
  model_beside names m root task trace _ _ fits (IsSwept first count rows found t is calm h shown) = IsSwept first count rows found t is (beside calm) h shown

-- what is answered on the first of some lanes, once it has been called
pub first_done : {T : Type 0} (calls : T → Option (List Answered)) (faults : T → ℕ) (lanes : List T) (was now : T) (names : List (List ℕ)) (m : ModelTree) (root : ℕ) (task : Task) (trace : List ℕ) (r : Result Reply NoMemory)
    → 0 < length lanes → was ≡ slice_index_or lanes 0 was → FitsLanes 1 task.work
    → IfOk r (λ reply. OfModel names m root task trace (lane (calls was) (calls now) (faults was) (faults now) ∷ []) reply.answer (string_bytes reply.text))
    → IfOk r (λ reply. OfModel names m root task trace (lanes_told calls faults lanes (slice_set lanes 0 now)) reply.answer (string_bytes reply.text))
first_done calls faults [] was now names m root task trace r some is fits done = absurd (omega (arith, some))
first_done calls faults (x ∷ more) was now names m root task trace (Err e) some is fits done = tt
first_done calls faults (x ∷ more) was now names m root task trace (Ok reply) some is fits done =
    model_beside (lane (calls x) (calls now) (faults x) (faults now)) (lanes_told calls faults more more) (none_called calls faults more) names m root task trace reply.answer (string_bytes reply.text) fits
    (subst (λ z. OfModel names m root task trace (lane (calls z) (calls now) (faults z) (faults now) ∷ []) reply.answer (string_bytes reply.text)) is done)

pub first_made : {T E : Type 0} (calls : T → Option (List Answered)) (faults : T → ℕ) (lanes : List T) (was now : T) (r : Result Reply E) → 0 < length lanes → was ≡ slice_index_or lanes 0 was
    → IfErr r (λ e. HasMade (lane (calls was) (calls now) (faults was) (faults now))) → IfErr r (λ e. HaveMade (lanes_told calls faults lanes (slice_set lanes 0 now)))
first_made calls faults [] was now r some is made = absurd (omega (arith, some))
first_made calls faults (x ∷ more) was now (Ok reply) some is made = tt
first_made calls faults (x ∷ more) was now (Err e) some is made =
    made_beside (lane (calls x) (calls now) (faults x) (faults now)) (lanes_told calls faults more more) (subst (λ z. HasMade (lane (calls z) (calls now) (faults z) (faults now))) is made) (none_called calls faults more)

-- what holds anyway holds where memory ran out
pub on_memory : {A E : Type 0} (P : Type 0) (r : Result A E) → P → IfErr r (λ e. P)
on_memory P (Ok x) p = tt
on_memory P (Err e) p = p

-- ---- lines

module _ (files : Option Files) (old new : ℕ) (command : Command) (arguments : List (List ℕ)) (told : List Lane) (lines : Lines) (have : ℕ) (words : List (List ℕ)) (line : IsLine lines have words command arguments) where
  behind : (trace : Option (List ℕ)) (front : Front) (a : Answer) (text : List ℕ) → HasFront files old new command arguments trace front → IsDone command arguments (bytes_of trace) told front a text
      → IsOwed lines have words files old new told a text
  behind trace (Ends found known) a text has done =
      subst (λ (b : Answer). IsOwed lines have words files old new told b text) (sym done.1)
      (subst (λ (t : List ℕ). IsOwed lines have words files old new told found t) (sym done.2) (EndsAtSources command arguments trace found known done.0 line has))
  behind trace (HasModel names m root) a text has done = IsServed command arguments trace names m root done.0 a text line has done.1 done.2

  owed : (trace : Option (List ℕ)) (front : Front) (a : Answer) (text : List ℕ) → OfLine files old new command arguments trace front → IsDone command arguments (bytes_of trace) told front a text
      → IsOwed lines have words files old new told a text
  owed trace _ a text (AtFiles found known h) done =
      subst (λ (b : Answer). IsOwed lines have words files old new told b text) (sym done.1)
      (subst (λ (t : List ℕ). IsOwed lines have words files old new told found t) (sym done.2) (EndsAtFiles command arguments found known done.0 line h))
  owed trace _ a text (BehindFiles front h) done = behind trace front a text h done

-- the request of a line
pub line_is : (files : Option Files) (old new : ℕ) (command : Command) (arguments : List (List ℕ)) (front : LineFront) (r : Request) → IsStage (OfLine files old new command arguments front.trace) front.stage
    → ((told : List Lane) (a : Answer) (text : List ℕ) → IsAnswered r told a text → IsDone command arguments (bytes_of front.trace) told (front_of front.stage) a text)
    → (lines : Lines) (have : ℕ) (words : List (List ℕ)) → IsLine lines have words command arguments → IsRequest lines have words files old new r
line_is files old new command arguments front r h done lines have words line = λ told a text is.
    owed files old new command arguments told lines have words line front.trace (front_of front.stage) a text h.right (done told a text is)

-- the words are that line
pub at_line : (P Q : Request → Type 0) (r : Result Request NoMemory) → ((x : Request) → P x → Q x) → IfOk r P → IfOk r Q
at_line P Q (Ok x) to h = to x h
at_line P Q (Err e) to h = tt

-- ---- no line

says_servable : (lines : Lines) (word have : ℕ) (r : Request) → SaysUsage word r → IsServable lines have r
says_servable lines word have (request.Answered reply) says = tt
says_servable lines word have (request.Asked q) says = absurd says

says_is : (files : Option Files) (count : ℕ) (lines : Lines) (have : ℕ) (words : List (List ℕ)) (word : ℕ) (r : Request) → IsWrongWord lines have words word → SaysUsage word r
    → IsRequest lines have words files count count r
says_is files count lines have words word (request.Answered reply) wrong says = λ told a text is.
    subst (λ (b : Answer). IsOwed lines have words files count count told b text) (sym (says_answer reply a is.1))
    (subst (λ (t : List ℕ). IsOwed lines have words files count count told (answer.Usage word) t) (sym (says_text reply text is.2)) (IsUsage word is.0 refl wrong))
  where
    says_answer : (q : Reply) (a : Answer) → a ≡ reply.answer → a ≡ answer.Usage word
    says_answer q a is = subst (λ (b : Answer). a ≡ b) says.answer_is is

    says_text : (q : Reply) (text : List ℕ) → text ≡ string_bytes reply.text → text ≡ usage_text word
    says_text q text is = subst (λ (t : List ℕ). text ≡ t) says.text_is is
says_is files count lines have words word (request.Asked q) wrong says = absurd says

pub unlined_servable : (lines : Lines) (word have : ℕ) (r : Result Request NoMemory) → IfOk r (SaysUsage word) → IfOk r (IsServable lines have)
unlined_servable lines word have r h = at_line (SaysUsage word) (IsServable lines have) r (says_servable lines word have) h

pub unlined_is : (files : Option Files) (count : ℕ) (lines : Lines) (have : ℕ) (words : List (List ℕ)) (word : ℕ) (r : Result Request NoMemory) → IsWrongWord lines have words word → IfOk r (SaysUsage word)
    → IfOk r (IsRequest lines have words files count count)
unlined_is files count lines have words word r wrong h =
    at_line (SaysUsage word) (IsRequest lines have words files count count) r (λ x says. says_is files count lines have words word x wrong says) h

-- ---- requests

-- the reply to a request of words is right for them
pub request_owed : (lines : Lines) (have : ℕ) (words : List (List ℕ)) (files : Option Files) (old new : ℕ) (told : List Lane) (x : Request) (r : Result Reply NoMemory) → IsRequest lines have words files old new x
    → IfOk r (λ reply. IsAnswered x told reply.answer (string_bytes reply.text)) → IfOk r (λ reply. IsOwed lines have words files old new told reply.answer (string_bytes reply.text))
request_owed lines have words files old new told x (Ok reply) is h = is told reply.answer (string_bytes reply.text) h
request_owed lines have words files old new told x (Err e) is h = tt
