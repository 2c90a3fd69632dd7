-- What is done with a scenario is answered well where nothing stands in its way.
use Rattle.std.proofs.Common.{◌≡◌, ℕ, List, length, refl, ap, sym, subst, arith}
use Rattle.pst_model.specs.ModelTree.{ModelTree}
use Rattle.pst_scen.specs.declared.scenario.Scenario.{Scenario}
use Rattle.pst_scen.specs.Plan.{Entries}
use Rattle.pst_scen.specs.Plans.{IsPlanOf}
use Rattle.pst_scenario_answers.specs.declared.check.CheckAnswer.{CheckAnswer}
use Rattle.pst_scenario_answers.specs.declared.check.CheckAnswer.TheVariants as checked
use Rattle.pst_addr.specs.declared.ask.Space.{Space}
use Rattle.pst_addr.specs.Asks.{asks_of}
use Rattle.pst_place_answers.specs.declared.answer.PlaceAnswer.{PlaceAnswer}
use Rattle.pst_place_answers.specs.Shown.{ShowsPlaces, AllHavePlaces, OneHasNone}
use Rattle.pst_static_answers.specs.declared.answer.StaticAnswer.{StaticAnswer}
use Rattle.pst_static_answers.specs.Shown.{ShowsStatic, ArePrinted, IsTooWide}
use Rattle.pst_run_alone.specs.Lanes.{Lane}
use Rattle.pst_words.specs.declared.command.Command.{Command}
use Rattle.pst_words.specs.declared.command.Command.TheVariants.{Run, Solve, Check, Gen, Static, Place, Sweep}
use Rattle.pst_outcome.specs.declared.answer.Answer.{Answer}
use Rattle.pst_outcome.specs.declared.answer.Answer.TheVariants.{Done, Solved, Placed}
use Rattle.pst_outcome.specs.declared.answer.Answer.TheVariants as answer
use Rattle.pst_outcome.specs.declared.task.Work.{Work}
use Rattle.pst_outcome.specs.declared.task.Work.TheVariants as work
use Rattle.pst_outcome.specs.Tasks.{IsWork}
use Rattle.pst_outcome.specs.Models.{answer_of_run, answer_of_check, answer_of_places, answer_of_programs, OfScenario, IsRun, IsSharedRun, IsGenerated, IsSharedGenerated, IsSolved, IsJudged, IsPlacing, IsProgrammed, IsSought}
use Rattle.pst_complete_answers.specs.Complete.{HasRoom, FitsOver, CanBeDone, IsGood, WasRun, WasGenerated, WasSolved, WasPlaced, WasProgrammed, IsWhole, IsPrefix, IsNoTrace, IsIllegal}
use Rattle.pst_complete_answers.proofs.Whole.{run_is_whole, counts_are_whole, shared_run_is_whole, shared_counts_are_whole}

-- what is answered where that is done with a scenario of so many actions
abbrev GoodOf : ℕ → Work → Answer → Type 0
GoodOf actions (work.Run count) a = a ≡ Done actions
GoodOf actions (work.Generate size count) a = a ≡ Done actions
GoodOf actions work.Solve a = a ≡ Solved actions
GoodOf actions work.Check a = (u : CheckAnswer) × (a ≡ answer_of_check u)
GoodOf actions (work.Place space) a = (asks : ℕ) × (a ≡ Placed asks)
GoodOf actions (work.Sweep first count) a = Unit {0}
GoodOf actions (work.Static over) a = (many : ℕ) × (a ≡ answer.Static many)

-- where there is room for all asks
placed : (names : List (List ℕ)) (m : ModelTree) (s : Scenario) (plan : Entries) (space : Space) (u : PlaceAnswer) (t : List ℕ) → IsPlanOf s plan → HasRoom names m s space → ShowsPlaces names m s plan space u t
    → (asks : ℕ) × (answer_of_places u ≡ Placed asks)
placed names m s plan space _ _ planned room (AllHavePlaces places h) = (length (asks_of names m s), refl)
placed names m s plan space _ _ planned room (OneHasNone number without) = absurd (room plan number planned without)

-- where the widest group fits the lanes
programmed : (names : List (List ℕ)) (m : ModelTree) (s : Scenario) (plan : Entries) (over : ℕ) (u : StaticAnswer) (t : List ℕ) → IsPlanOf s plan → FitsOver s over → ShowsStatic names m s plan over u t
    → (many : ℕ) × (answer_of_programs u ≡ answer.Static many)
programmed names m s plan over _ _ planned enough (ArePrinted programs fits h) = (_, refl)
programmed names m s plan over _ _ planned enough (IsTooWide wide) = let most = enough plan planned in absurd (omega (arith, wide, most))

of_scenario : (names : List (List ℕ)) (m : ModelTree) (s : Scenario) (plan : Entries) (trace : List ℕ) (told : List Lane) (w : Work) (a : Answer) (x : List ℕ) → IsPlanOf s plan → CanBeDone names m s told w
    → OfScenario names m s plan trace told w a x → GoodOf (length s.actions) w a
of_scenario names m s plan trace told _ _ _ planned free (IsRun count l others u t one is calm h) = ap answer_of_run (run_is_whole m s names plan planned count told free l others u t one is h)
of_scenario names m s plan trace told _ _ _ planned free (IsSharedRun count u t several h) = ap answer_of_run (shared_run_is_whole m s names plan planned count told free u t h)
of_scenario names m s plan trace told _ _ _ planned free (IsGenerated size count l others u t one is calm h) =
    ap answer_of_run (counts_are_whole m s names plan planned count told free size l others u t one is h)
of_scenario names m s plan trace told _ _ _ planned free (IsSharedGenerated size count u t several h) =
    ap answer_of_run (shared_counts_are_whole m s names plan planned count told free size u t h)
of_scenario names m s plan trace told _ _ _ planned free (IsSolved calm) = refl
of_scenario names m s plan trace told _ _ _ planned free (IsJudged u calm h) = (u, refl)
of_scenario names m s plan trace told _ _ _ planned free (IsPlacing space u t calm h) = placed names m s plan space u t planned free h
of_scenario names m s plan trace told _ _ _ planned free (IsProgrammed over u t calm h) = programmed names m s plan over u t planned free h

of_check : (actions : ℕ) (u : CheckAnswer) → IsGood actions Check (answer_of_check u)
of_check actions checked.Whole = IsWhole
of_check actions checked.Prefix = IsPrefix
of_check actions (checked.BadTrace number) = IsNoTrace number
of_check actions (checked.Illegal number rule) = IsIllegal number rule

of_command : (command : Command) (arguments : List (List ℕ)) (actions : ℕ) (w : Work) (a : Answer) → IsWork command arguments w → IsSought w → GoodOf actions w a → IsGood actions command a
of_command Run arguments actions w a h sought good = subst (IsGood actions Run) (sym (subst (λ (z : Work). GoodOf actions z a) h.2 good)) WasRun
of_command Gen arguments actions w a h sought good = subst (IsGood actions Gen) (sym (subst (λ (z : Work). GoodOf actions z a) h.4 good)) WasGenerated
of_command Solve arguments actions w a h sought good = subst (IsGood actions Solve) (sym (subst (λ (z : Work). GoodOf actions z a) h good)) WasSolved
of_command Check arguments actions w a h sought good =
    let both : GoodOf actions work.Check a = subst (λ (z : Work). GoodOf actions z a) h good in subst (IsGood actions Check) (sym both.1) (of_check actions both.0)
of_command Static arguments actions w a h sought good =
    let both : GoodOf actions (work.Static h.0) a = subst (λ (z : Work). GoodOf actions z a) h.2 good in subst (IsGood actions Static) (sym both.1) (WasProgrammed both.0)
of_command Place arguments actions w a h sought good =
    let both : GoodOf actions (work.Place (record { base = h.0; size = h.1 })) a = subst (λ (z : Work). GoodOf actions z a) h.4 good in subst (IsGood actions Place) (sym both.1) (WasPlaced both.0)
of_command Sweep arguments actions w a h sought good = absurd (subst IsSought h.4 sought)

-- what is done with a scenario by the plan is answered well
pub good_answer : (names : List (List ℕ)) (m : ModelTree) (s : Scenario) (plan : Entries) (trace : List ℕ) (told : List Lane) (command : Command) (arguments : List (List ℕ)) (w : Work) (a : Answer) (x : List ℕ)
    → IsWork command arguments w → IsSought w → IsPlanOf s plan → CanBeDone names m s told w → OfScenario names m s plan trace told w a x → IsGood (length s.actions) command a
good_answer names m s plan trace told command arguments w a x is sought planned free h =
    of_command command arguments (length s.actions) w a is sought (of_scenario names m s plan trace told w a x planned free h)
