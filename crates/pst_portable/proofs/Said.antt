-- From right answers to what was delivered.
use Rattle.std.proofs.Common.{◌≡◌, ◌<◌, ◌⊎◌, ℕ, Bool, true, false, nat_lt, List, ◌∷◌, length, get_or, refl, sym, subst, inl, inr}
use Rattle.std.specs.Prelude.{Option, string_bytes}
use Rattle.std.proofs.lemmas.Bool.{ltb-true, ltb-false, cases_order}
use Rattle.pst_io.specs.Shelf.{Files}
use Rattle.pst_model.specs.ModelTree.{ModelTree}
use Rattle.pst_token.specs.declared.token.Token.{Token}
use Rattle.pst_ast.specs.DeclarationTree.{UnitTree}
use Rattle.pst_scen.specs.declared.scenario.Scenario.{Scenario}
use Rattle.pst_scen.specs.declared.event.Event.{Event}
use Rattle.pst_lanes.specs.Lanes.{starts_on, ends_on}
use Rattle.pst_scen.specs.Plan.{Entries}
use Rattle.pst_scenario_answers.specs.declared.check.CheckAnswer.{CheckAnswer}
use Rattle.pst_scenario_answers.specs.declared.check.CheckAnswer.TheVariants as checked
use Rattle.pst_place_answers.specs.declared.answer.PlaceAnswer.{PlaceAnswer}
use Rattle.pst_place_answers.specs.declared.answer.PlaceAnswer.TheVariants as place
use Rattle.pst_static_answers.specs.declared.answer.StaticAnswer.{StaticAnswer}
use Rattle.pst_static_answers.specs.declared.answer.StaticAnswer.TheVariants as programs
use Rattle.pst_run_alone.specs.declared.answer.RunAnswer.{RunAnswer}
use Rattle.pst_run_alone.specs.declared.answer.RunAnswer.TheVariants as ran
use Rattle.pst_run_alone.specs.Lanes.{Lane, HasMade, AreUncalled, HaveMade}
use Rattle.pst_run_alone.specs.Shown.{ShowsRun, IsTooWide, HasEnded, HasFailed, HasTrapped}
use Rattle.pst_words.specs.declared.command.Lines.{Lines}
use Rattle.pst_outcome.specs.declared.answer.Answer.{Answer}
use Rattle.pst_outcome.specs.declared.answer.Answer.TheVariants as answer
use Rattle.pst_outcome.specs.declared.reply.Reply.{Reply}
use Rattle.pst_outcome.specs.declared.task.Task.{Task}
use Rattle.pst_outcome.specs.declared.task.Work.{Work}
use Rattle.pst_outcome.specs.Sources.{Front, Ends, HasModel, OfUnits, BreaksRule, HasManyInstances, AreElaborated, OfTokens, IsSyntaxFault, HasUnits, OfTexts, IsLexicalFault, HasManyTokens, HasTokens}
use Rattle.pst_outcome.specs.SharedRuns.{Break, HasRun, HasBroken, AtCall, InTrap, HasStopped, BetweenBodies, InBody, AreUncalledFrom, HaveRun, HaveStopped, ShowsSharedRun, IsTooWide as AreTooWide, EndsWhole, EndsEarly}
use Rattle.pst_outcome.specs.Models.{answer_of_run, answer_of_check, answer_of_places, answer_of_programs, ShowsCounts, HasEnded as HasEndedWhole, EndsElse, ShowsSharedCounts, HaveEnded, EndElse, OfScenario, IsRun, IsSharedRun, IsGenerated, IsSharedGenerated, IsSolved, IsJudged, IsPlacing, IsProgrammed, OfModel, HasNone, IsSpent, IsFound, IsSwept}
use Rattle.pst_outcome.specs.Outcome.{OfFiles, IsNoFile, IsUnread, HasManyBytes, HasLongTrace, IsOwed, IsUsage, EndsAtFiles, EndsAtSources, IsServed, bytes_of}
use Rattle.pst_outcome.specs.Delivered.{Answers, Writing}
use Rattle.pst_portable.specs.Replies.{Delivers}
use Rattle.pst_shared_answers.proofs.PassedOn.{none_made, all_made}
use Rattle.pst_portable.proofs.Done.{made_beside}

-- ---- an answer that only writing or memory gives is never right before

abbrev IsSaid : Answer → Type 0
IsSaid answer.WriteFault = ⊥
IsSaid answer.NoMemory = ⊥
IsSaid a = Unit {0}

run_said : (a : RunAnswer) → IsSaid (answer_of_run a)
run_said (ran.Done actions) = tt
run_said (ran.Narrow need have) = tt
run_said (ran.TargetFault number action call) = tt
run_said (ran.BodyTrap number action kind) = tt

check_said : (a : CheckAnswer) → IsSaid (answer_of_check a)
check_said checked.Whole = tt
check_said checked.Prefix = tt
check_said (checked.BadTrace number) = tt
check_said (checked.Illegal number rule) = tt

places_said : (a : PlaceAnswer) → IsSaid (answer_of_places a)
places_said (place.Placed asks) = tt
places_said (place.NoRoom action) = tt

programs_said : (a : StaticAnswer) → IsSaid (answer_of_programs a)
programs_said (programs.Static instructions) = tt
programs_said (programs.Narrow need have) = tt

scenario_said : (names : List (List ℕ)) (m : ModelTree) (s : Scenario) (plan : Entries) (trace : List ℕ) (told : List Lane) (work : Work) (a : Answer) (t : List ℕ) → OfScenario names m s plan trace told work a t → IsSaid a
scenario_said names m s plan trace told _ _ _ (IsRun n l ls a text one is calm h) = run_said a
scenario_said names m s plan trace told _ _ _ (IsSharedRun n a text several h) = run_said a
scenario_said names m s plan trace told _ _ _ (IsGenerated size n l ls a text one is calm h) = run_said a
scenario_said names m s plan trace told _ _ _ (IsSharedGenerated size n a text several h) = run_said a
scenario_said names m s plan trace told _ _ _ (IsSolved none) = tt
scenario_said names m s plan trace told _ _ _ (IsJudged a none h) = check_said a
scenario_said names m s plan trace told _ _ _ (IsPlacing space a text none h) = places_said a
scenario_said names m s plan trace told _ _ _ (IsProgrammed over a text none h) = programs_said a

model_said : (names : List (List ℕ)) (m : ModelTree) (root : ℕ) (task : Task) (trace : List ℕ) (told : List Lane) (a : Answer) (t : List ℕ) → OfModel names m root task trace told a t → IsSaid a
model_said names m root task trace told _ _ (HasNone sought none h) = tt
model_said names m root task trace told _ _ (IsSpent level sought none low h) = tt
model_said names m root task trace told _ _ (IsFound s plan a t first planned h) = scenario_said names m s plan trace told task.work a t h
model_said names m root task trace told _ _ (IsSwept first count rows found t is none h shown) = tt

-- the same of what sources come to
abbrev IsFrontSaid : Front → Type 0
IsFrontSaid (Ends a t) = IsSaid a
IsFrontSaid (HasModel names m root) = Unit {0}

units_said : (arguments : List (List ℕ)) (component action : List ℕ) (names : List (List ℕ)) (units : List UnitTree) (front : Front) → OfUnits arguments component action names units front → IsFrontSaid front
units_said arguments component action names units _ (BreaksRule _ _ _) = tt
units_said arguments component action names units _ (HasManyInstances _) = tt
units_said arguments component action names units _ (AreElaborated _ _ _) = tt

tokens_said : (arguments : List (List ℕ)) (component action : List ℕ) (names : List (List ℕ)) (tokens : List (List Token)) (front : Front) → OfTokens arguments component action names tokens front → IsFrontSaid front
tokens_said arguments component action names tokens _ (IsSyntaxFault _ _ _) = tt
tokens_said arguments component action names tokens _ (HasUnits units front _ h) = units_said arguments component action names units front h

texts_said : (arguments : List (List ℕ)) (component action : List ℕ) (texts : List (List ℕ)) (front : Front) → OfTexts arguments component action texts front → IsFrontSaid front
texts_said arguments component action texts _ (IsLexicalFault _ _ _) = tt
texts_said arguments component action texts _ (HasManyTokens _) = tt
texts_said arguments component action texts _ (HasTokens names tokens front _ h) = tokens_said arguments component action names tokens front h

files_said : (files : Option Files) (old new : ℕ) (arguments : List (List ℕ)) (a : Answer) (t : List ℕ) → OfFiles files old new arguments a t → IsSaid a
files_said files old new arguments _ _ (IsNoFile _ _ _ _ _) = tt
files_said files old new arguments _ _ (IsUnread _ _ _ _) = tt
files_said files old new arguments _ _ (HasManyBytes _ _ _ _ _ _) = tt
files_said files old new arguments _ _ (HasLongTrace _ _ _ _ _ _ _) = tt

owed_said : (lines : Lines) (have : ℕ) (words : List (List ℕ)) (files : Option Files) (old new : ℕ) (told : List Lane) (a : Answer) (t : List ℕ) → IsOwed lines have words files old new told a t → IsSaid a
owed_said lines have words files old new told _ _ (IsUsage _ _ _ _) = tt
owed_said lines have words files old new told _ _ (EndsAtFiles command arguments a t _ _ h) = files_said files old new arguments a t h
owed_said lines have words files old new told _ _ (EndsAtSources command arguments trace a t _ _ h) = texts_said arguments h.component h.action h.sources (Ends a t) h.comes_to
owed_said lines have words files old new told _ _ (IsServed command arguments trace names m root task a t _ _ _ h) = model_said names m root task (bytes_of trace) told a t h

-- ---- the calls of the lanes are those that were there, and others behind them

run_made : (names : List (List ℕ)) (m : ModelTree) (s : Scenario) (plan : Entries) (l : Lane) (a : RunAnswer) (t : List ℕ) → ShowsRun names m s plan l.before l.after l.faults_before l.faults_after a t → HasMade l
run_made names m s plan l _ _ (IsTooWide wide same count) = none_made l (record { calls = same; count = count })
run_made names m s plan l _ _ (HasEnded book narrow h count) = (h.made, h.calls)
run_made names m s plan l _ _ (HasFailed action call book narrow h risen) = (h.ran.made, h.ran.calls)
run_made names m s plan l _ _ (HasTrapped action kind book narrow h count) = (h.made, h.calls)

counts_made : (names : List (List ℕ)) (m : ModelTree) (s : Scenario) (plan : Entries) (size : ℕ) (l : Lane) (a : RunAnswer) (t : List ℕ) → ShowsCounts names m s plan size l a t → HasMade l
counts_made names m s plan size l _ _ (HasEndedWhole book narrow h count) = (h.made, h.calls)
counts_made names m s plan size l _ _ (EndsElse a t h other) = run_made names m s plan l a t h

-- the first lane's calls were made, and no others
first_made : (told : List Lane) (l : Lane) (others : List Lane) → told ≡ l ∷ others → HasMade l → AreUncalled others → HaveMade told
first_made told l others is made none = subst HaveMade (sym is) (made_beside l others made none)

-- a lane that ran actions, or stopped
has_run_made : (m : ModelTree) (s : Scenario) (actions : List ℕ) (l : Lane) → HasRun m s actions l → HasMade l
has_run_made m s actions l h = (h.made, h.calls)

broken_made : (m : ModelTree) (s : Scenario) (actions : List ℕ) (action : ℕ) (l : Lane) (break : Break) → HasBroken m s actions action l break → HasMade l
broken_made m s actions action l _ (AtCall function arguments call r number risen) = (r.made, r.calls)
broken_made m s actions action l _ (InTrap kind r count) = (r.made, r.calls)

stopped_made : (m : ModelTree) (s : Scenario) (trace : List Event) (number : ℕ) (l : Lane) → HasStopped m s trace number l → HasMade l
stopped_made m s trace number l (BetweenBodies h) = has_run_made m s (ends_on number trace) l h
stopped_made m s trace number l (InBody action break runs h) = broken_made m s (ends_on number trace) action l break h

-- each lane is one of the run, or one of the others
each_made : (count : ℕ) (told : List Lane) → ((k : ℕ) (d : Lane) → k < count → HasMade (get_or told k d)) → AreUncalledFrom count told → HaveMade told
each_made count told ran others = λ k d inside. by k d inside (nat_lt k count) refl
  where
    by : (k : ℕ) (d : Lane) → k < length told → (b : Bool) → nat_lt k count ≡ b → HasMade (get_or told k d)
    by k d inside true is = ran k d (ltb-true k count is)
    by k d inside false is = none_made (get_or told k d) (others k d (ltb-false k count is) inside)

have_run_made : (m : ModelTree) (s : Scenario) (count : ℕ) (trace : List Event) (told : List Lane) → HaveRun m s count trace told → HaveMade told
have_run_made m s count trace told h = each_made count told (λ k d below. has_run_made m s (starts_on k trace) (get_or told k d) (h.each k d below)) h.others

have_stopped_made : (m : ModelTree) (s : Scenario) (count : ℕ) (trace : List Event) (told : List Lane) (number action : ℕ) (break : Break) → HaveStopped m s count trace told number action break → HaveMade told
have_stopped_made m s count trace told number action break h = each_made count told (λ k d below. by k d below (cases_order k number)) h.others
  where
    by : (k : ℕ) (d : Lane) → k < count → (k ≡ number) ⊎ ((k < number) ⊎ (number < k)) → HasMade (get_or told k d)
    by k d below (inr (inl low)) = has_run_made m s (ends_on k trace) (get_or told k d) (h.below k d low)
    by k d below (inl same) = subst (λ (n : ℕ). HasMade (get_or told n d)) (sym same) (broken_made m s (ends_on number trace) action (get_or told number d) break (h.here d))
    by k d below (inr (inr high)) = stopped_made m s trace k (get_or told k d) (h.above k d high below)

shared_made : (names : List (List ℕ)) (m : ModelTree) (s : Scenario) (plan : Entries) (count : ℕ) (told : List Lane) (a : RunAnswer) (t : List ℕ) → ShowsSharedRun names m s plan count told a t → HaveMade told
shared_made names m s plan count told _ _ (AreTooWide wide none) = all_made told none
shared_made names m s plan count told _ _ (EndsWhole trace fits h) = have_run_made m s count trace told h
shared_made names m s plan count told _ _ (EndsEarly trace number action break fits h) = have_stopped_made m s count trace told number action break h

shared_counts_made : (names : List (List ℕ)) (m : ModelTree) (s : Scenario) (plan : Entries) (size count : ℕ) (told : List Lane) (a : RunAnswer) (t : List ℕ) → ShowsSharedCounts names m s plan size count told a t → HaveMade told
shared_counts_made names m s plan size count told _ _ (HaveEnded trace fits h) = have_run_made m s count trace told h
shared_counts_made names m s plan size count told _ _ (EndElse a t h other) = shared_made names m s plan count told a t h

scenario_made : (names : List (List ℕ)) (m : ModelTree) (s : Scenario) (plan : Entries) (trace : List ℕ) (told : List Lane) (work : Work) (a : Answer) (t : List ℕ) → OfScenario names m s plan trace told work a t → HaveMade told
scenario_made names m s plan trace told _ _ _ (IsRun n l ls a t one is calm h) = first_made told l ls is (run_made names m s plan l a t h) calm
scenario_made names m s plan trace told _ _ _ (IsSharedRun n a t several h) = shared_made names m s plan n told a t h
scenario_made names m s plan trace told _ _ _ (IsGenerated size n l ls a t one is calm h) = first_made told l ls is (counts_made names m s plan size l a t h) calm
scenario_made names m s plan trace told _ _ _ (IsSharedGenerated size n a t several h) = shared_counts_made names m s plan size n told a t h
scenario_made names m s plan trace told _ _ _ (IsSolved none) = all_made told none
scenario_made names m s plan trace told _ _ _ (IsJudged a none h) = all_made told none
scenario_made names m s plan trace told _ _ _ (IsPlacing space a text none h) = all_made told none
scenario_made names m s plan trace told _ _ _ (IsProgrammed over a text none h) = all_made told none

model_made : (names : List (List ℕ)) (m : ModelTree) (root : ℕ) (task : Task) (trace : List ℕ) (told : List Lane) (a : Answer) (t : List ℕ) → OfModel names m root task trace told a t → HaveMade told
model_made names m root task trace told _ _ (HasNone sought none h) = all_made told none
model_made names m root task trace told _ _ (IsSpent level sought none low h) = all_made told none
model_made names m root task trace told _ _ (IsFound s plan a t first planned h) = scenario_made names m s plan trace told task.work a t h
model_made names m root task trace told _ _ (IsSwept first count rows found t is none h shown) = all_made told none

owed_made : (lines : Lines) (have : ℕ) (words : List (List ℕ)) (files : Option Files) (old new : ℕ) (told : List Lane) (a : Answer) (t : List ℕ) → IsOwed lines have words files old new told a t → HaveMade told
owed_made lines have words files old new told _ _ (IsUsage _ none _ _) = all_made told none
owed_made lines have words files old new told _ _ (EndsAtFiles command arguments a t none _ h) = all_made told none
owed_made lines have words files old new told _ _ (EndsAtSources command arguments trace a t none _ h) = all_made told none
owed_made lines have words files old new told _ _ (IsServed command arguments trace names m root task a t _ _ _ h) = model_made names m root task (bytes_of trace) told a t h

-- ---- what was delivered is the answer

pub answered : (lines : Lines) (have : ℕ) (words : List (List ℕ)) (files : Option Files) (old new : ℕ) (told : List Lane) (w : Writing) (reply : Reply) (result : Answer)
    → IsOwed lines have words files old new told reply.answer (string_bytes reply.text) → Delivers reply w result → Answers lines have words files old new told w result
answered lines have words files old new told w reply result owed (inl d) = subst (Answers lines have words files old new told w) (sym d.0) (by_answer reply.answer owed)
  where
    by_answer : (a : Answer) → IsOwed lines have words files old new told a (string_bytes reply.text) → Answers lines have words files old new told w a
    by_answer (answer.Done actions) o = record { text = string_bytes reply.text; owed = o; writes = d.1 }
    by_answer (answer.Solved actions) o = record { text = string_bytes reply.text; owed = o; writes = d.1 }
    by_answer answer.Whole o = record { text = string_bytes reply.text; owed = o; writes = d.1 }
    by_answer answer.Prefix o = record { text = string_bytes reply.text; owed = o; writes = d.1 }
    by_answer (answer.Usage word) o = record { text = string_bytes reply.text; owed = o; writes = d.1 }
    by_answer (answer.NoFile word) o = record { text = string_bytes reply.text; owed = o; writes = d.1 }
    by_answer (answer.ReadFault word) o = record { text = string_bytes reply.text; owed = o; writes = d.1 }
    by_answer (answer.Large what number) o = record { text = string_bytes reply.text; owed = o; writes = d.1 }
    by_answer (answer.Lexical wide place) o = record { text = string_bytes reply.text; owed = o; writes = d.1 }
    by_answer (answer.Syntax deep place) o = record { text = string_bytes reply.text; owed = o; writes = d.1 }
    by_answer (answer.Rule place rule) o = record { text = string_bytes reply.text; owed = o; writes = d.1 }
    by_answer (answer.Placed asks) o = record { text = string_bytes reply.text; owed = o; writes = d.1 }
    by_answer (answer.Static instructions) o = record { text = string_bytes reply.text; owed = o; writes = d.1 }
    by_answer (answer.Swept found) o = record { text = string_bytes reply.text; owed = o; writes = d.1 }
    by_answer (answer.NoRoom action) o = record { text = string_bytes reply.text; owed = o; writes = d.1 }
    by_answer answer.NoScenario o = record { text = string_bytes reply.text; owed = o; writes = d.1 }
    by_answer (answer.Budget level) o = record { text = string_bytes reply.text; owed = o; writes = d.1 }
    by_answer (answer.Narrow need have) o = record { text = string_bytes reply.text; owed = o; writes = d.1 }
    by_answer (answer.TargetFault number action call) o = record { text = string_bytes reply.text; owed = o; writes = d.1 }
    by_answer (answer.BodyTrap number action kind) o = record { text = string_bytes reply.text; owed = o; writes = d.1 }
    by_answer (answer.BadTrace number) o = record { text = string_bytes reply.text; owed = o; writes = d.1 }
    by_answer (answer.Illegal number rule) o = record { text = string_bytes reply.text; owed = o; writes = d.1 }
    by_answer answer.WriteFault o = absurd (owed_said lines have words files old new told answer.WriteFault (string_bytes reply.text) o)
    by_answer answer.NoMemory o = absurd (owed_said lines have words files old new told answer.NoMemory (string_bytes reply.text) o)
answered lines have words files old new told w reply result owed (inr (inl d)) =
    subst (Answers lines have words files old new told w) (sym d.0) (record { answer = reply.answer; text = string_bytes reply.text; owed = owed; breaks = d.1 })
answered lines have words files old new told w reply result owed (inr (inr d)) =
    subst (Answers lines have words files old new told w) (sym d.0) (record { leaves = d.1; made = owed_made lines have words files old new told reply.answer (string_bytes reply.text) owed })
