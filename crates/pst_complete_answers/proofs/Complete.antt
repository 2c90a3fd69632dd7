-- Answers are complete.
use Rattle.std.proofs.Common.{◌≡◌, ℕ, ◌⊎◌, inl, inr, List, length, refl, sym, subst}
use Rattle.std.specs.Prelude.{Some}
use Rattle.pst_base.specs.Fault.{HasRisen}
use Rattle.pst_io.specs.Shelf.{Files}
use Rattle.pst_token.specs.Laws.{EachTextHasOneReading}
use Rattle.pst_lexer.specs.Fault.{EachTextHasOneOutcome}
use Rattle.pst_texts.specs.Texts.{TokensOfTextsAreOne}
use Rattle.pst_ast.specs.Laws.{AtMostOneTree, AnswersAgree}
use Rattle.pst_ast.specs.Rule.{TheUnit}
use Rattle.pst_elab_rules.specs.Laws.{FirstBreachesAreOne, AnswersAreApart}
use Rattle.pst_model.specs.ModelTree.{ModelTree}
use Rattle.pst_scen.specs.declared.scenario.Scenario.{Scenario}
use Rattle.pst_scen.specs.Plan.{Entries}
use Rattle.pst_legal.specs.First.{IsFirst}
use Rattle.pst_legal.specs.Laws.{FirstIsOne}
use Rattle.pst_live_lists.specs.Laws.{FoundWithinBudget, DoneWithinBudget}
use Rattle.pst_run_alone.specs.Lanes.{Lane}
use Rattle.pst_words.specs.declared.command.Lines.{Lines}
use Rattle.pst_outcome.specs.declared.answer.Answer.{Answer}
use Rattle.pst_outcome.specs.declared.answer.Answer.TheVariants.{Swept, NoScenario, WriteFault, NoMemory}
use Rattle.pst_outcome.specs.declared.task.Task.{Task}
use Rattle.pst_outcome.specs.declared.task.Work.{Work}
use Rattle.pst_outcome.specs.declared.task.Work.TheVariants as work
use Rattle.pst_outcome.specs.Models.{OfScenario, IsRun, IsSharedRun, IsGenerated, IsSharedGenerated, IsSolved, IsJudged, IsPlacing, IsProgrammed, IsSought, OfModel, HasNone, IsSpent, IsFound, IsSwept}
use Rattle.pst_outcome.specs.Tasks.{IsSweep}
use Rattle.pst_outcome.specs.Outcome.{bytes_of}
use Rattle.pst_outcome.specs.Delivered.{Writing, HasAnswered, Answers}
use Rattle.pst_outcome.proofs.OneFront.{SourceLaws}
use Rattle.pst_complete_answers.specs.Complete.{Asked, AreAsking, AreSweeping, IsLegalInTime, IsMissedInTime, CanBeDone, IsGood, IsGoodForFirst}
use Rattle.pst_complete_answers.specs.Laws.{LegalLinesAreComplete, FoundLinesAreComplete, OtherLinesAreComplete, SweptLinesAreComplete}
use Rattle.pst_complete_answers.proofs.Good.{good_answer}
use Rattle.pst_complete_answers.proofs.Served.{of_asked, of_swept}

-- the laws that tell what a line is answered
pub record LineLaws : Type 0 where
  pub sources : SourceLaws
  pub firsts : FirstIsOne
  pub found : FoundWithinBudget
  pub done : DoneWithinBudget

-- where the sink doesn't fail, the answer is a right one, unless memory ran out
delivered : (lines : Lines) (have : ℕ) (words : List (List ℕ)) (f : Files) (old new : ℕ) (told : List Lane) (w : Writing) (a : Answer) → (HasRisen w.faults_before w.faults_after → ⊥)
    → Answers lines have words (Some f) old new told w a → HasAnswered lines have words (Some f) old new told w a ⊎ (a ≡ NoMemory)
delivered lines have words f old new told w WriteFault calm h = absurd (calm h.breaks.count)
delivered lines have words f old new told w NoMemory calm h = inr refl
delivered lines have words f old new told w a calm h = inl h

not_swept : (w : Work) (start many : ℕ) → w ≡ work.Sweep start many → IsSought w → ⊥
not_swept w start many swept sought = subst IsSought swept sought

-- a sweep is nothing that is done with a scenario
sweep_apart : (w : Work) → IsSweep w → IsSought w → ⊥
sweep_apart (work.Sweep first count) sweep sought = sought
sweep_apart (work.Run lanes) sweep sought = sweep
sweep_apart work.Solve sweep sought = sweep
sweep_apart work.Check sweep sought = sweep
sweep_apart (work.Place space) sweep sought = sweep
sweep_apart (work.Generate size lanes) sweep sought = sweep
sweep_apart (work.Static over) sweep sought = sweep

module _ (laws : LineLaws) (lines : Lines) (have : ℕ) (words : List (List ℕ)) (f : Files) (old new : ℕ) (told : List Lane) (asked : Asked) (asking : AreAsking lines have words f old new asked) where
  abbrev OfAsked : Answer → List ℕ → Type 0
  OfAsked a x = OfModel asked.names asked.model asked.root asked.task (bytes_of asked.trace) told a x

  -- ---- a legal scenario

  legal_good : (a : Answer) (x : List ℕ) → IsLegalInTime asked → ((s : Scenario) → IsFirst asked.model asked.root asked.task.seed asked.task.infer s → CanBeDone asked.names asked.model s told asked.task.work)
      → OfAsked a x → IsGoodForFirst asked a
  legal_good _ _ within free (HasNone _ _ none) = absurd (none within.scenario within.few_inferred within.reads.legal)
  legal_good _ _ within free (IsSpent level _ _ few spent) =
      absurd (laws.found asked.model asked.root asked.task.seed asked.task.budget level within.scenario within.choices within.reads within.few spent)
  legal_good _ _ within free (IsFound s plan a x first planned h) =
      record {
        scenario = s;
        first = first;
        good = good_answer asked.names asked.model s plan (bytes_of asked.trace) told asked.command asked.arguments asked.task.work a x asking.asks.work_is asking.sought planned (free s first) h;
      }
  legal_good _ _ within free (IsSwept start many rows found x is _ _ _) = absurd (not_swept asked.task.work start many is asking.sought)

  -- ---- no legal scenario

  missed : (a : Answer) (x : List ℕ) → IsMissedInTime asked → OfAsked a x → a ≡ NoScenario
  missed _ _ none (HasNone _ _ _) = refl
  missed _ _ none (IsSpent level _ _ few spent) = absurd (laws.done asked.model asked.root asked.task.seed asked.task.budget asked.task.infer level few none.few spent)
  missed _ _ none (IsFound r plan a x first planned h) = absurd (none.none r first.few first.reads.legal)
  missed _ _ none (IsSwept start many rows found x is _ _ _) = absurd (not_swept asked.task.work start many is asking.sought)

pub legal_lines : LineLaws → LegalLinesAreComplete
legal_lines laws lines have words f old new told w answer asked asking calm within free h = by (delivered lines have words f old new told w answer calm.sink h)
  where
    by : HasAnswered lines have words (Some f) old new told w answer ⊎ (answer ≡ NoMemory) → IsGoodForFirst asked answer ⊎ (answer ≡ NoMemory)
    by (inl k) =
        inl (legal_good laws lines have words f old new told asked asking answer k.text within free (of_asked laws.sources lines have words f old new told asked asking answer k.text calm.shelf k.owed))
    by (inr gone) = inr gone

pub found_lines : LineLaws → FoundLinesAreComplete
found_lines laws lines have words f old new told w answer asked s asking calm in_time free h =
    by (legal_lines laws lines have words f old new told w answer asked asking calm
    (record { scenario = s; few_inferred = in_time.first.few; choices = in_time.first.choices; reads = in_time.first.reads; few = in_time.few })
    (λ r first. subst (λ (z : Scenario). CanBeDone asked.names asked.model z told asked.task.work) (sym (same r first)) free) h)
  where
    same : (r : Scenario) → IsFirst asked.model asked.root asked.task.seed asked.task.infer r → r ≡ s
    same r first = laws.firsts asked.model asked.root asked.task.seed asked.task.infer r s first in_time.first

    by : IsGoodForFirst asked answer ⊎ (answer ≡ NoMemory) → IsGood (length s.actions) asked.command answer ⊎ (answer ≡ NoMemory)
    by (inl k) = inl (subst (λ (z : Scenario). IsGood (length z.actions) asked.command answer) (same k.scenario k.first) k.good)
    by (inr gone) = inr gone

pub other_lines : LineLaws → OtherLinesAreComplete
other_lines laws lines have words f old new told w answer asked asking calm none h = by (delivered lines have words f old new told w answer calm.sink h)
  where
    by : HasAnswered lines have words (Some f) old new told w answer ⊎ (answer ≡ NoMemory) → (answer ≡ NoScenario) ⊎ (answer ≡ NoMemory)
    by (inl k) = inl (missed laws lines have words f old new told asked asking answer k.text none (of_asked laws.sources lines have words f old new told asked asking answer k.text calm.shelf k.owed))
    by (inr gone) = inr gone

-- ---- sweeps

module _ (names : List (List ℕ)) (m : ModelTree) (root : ℕ) (task : Task) (trace : List ℕ) (told : List Lane) (sweep : IsSweep task.work) where
  sought_apart : (s : Scenario) (plan : Entries) (w : Work) (a : Answer) (x : List ℕ) → OfScenario names m s plan trace told w a x → IsSweep w → ⊥
  sought_apart s plan _ _ _ (IsRun count l others u t one is calm h) swept = swept
  sought_apart s plan _ _ _ (IsSharedRun count u t several h) swept = swept
  sought_apart s plan _ _ _ (IsGenerated size count l others u t one is calm h) swept = swept
  sought_apart s plan _ _ _ (IsSharedGenerated size count u t several h) swept = swept
  sought_apart s plan _ _ _ (IsSolved calm) swept = swept
  sought_apart s plan _ _ _ (IsJudged u calm h) swept = swept
  sought_apart s plan _ _ _ (IsPlacing space u t calm h) swept = swept
  sought_apart s plan _ _ _ (IsProgrammed over u t calm h) swept = swept

  is_swept : (a : Answer) (x : List ℕ) → OfModel names m root task trace told a x → (found : ℕ) × (a ≡ Swept found)
  is_swept _ _ (HasNone sought _ _) = absurd (sweep_apart task.work sweep sought)
  is_swept _ _ (IsSpent level sought _ few spent) = absurd (sweep_apart task.work sweep sought)
  is_swept _ _ (IsFound s plan a x first planned h) = absurd (sought_apart s plan task.work a x h sweep)
  is_swept _ _ (IsSwept start many rows found x is _ _ _) = (found, refl)

pub swept_lines : LineLaws → SweptLinesAreComplete
swept_lines laws lines have words f old new told w answer asked sweeping calm h = by (delivered lines have words f old new told w answer calm.sink h)
  where
    by : HasAnswered lines have words (Some f) old new told w answer ⊎ (answer ≡ NoMemory) → ((found : ℕ) × (answer ≡ Swept found)) ⊎ (answer ≡ NoMemory)
    by (inl k) =
        inl (is_swept asked.names asked.model asked.root asked.task (bytes_of asked.trace) told sweeping.swept answer k.text
        (of_swept laws.sources lines have words f old new told asked sweeping answer k.text calm.shelf k.owed))
    by (inr gone) = inr gone

pub line_laws : EachTextHasOneReading → EachTextHasOneOutcome → TokensOfTextsAreOne → AtMostOneTree TheUnit → AnswersAgree → FirstBreachesAreOne → AnswersAreApart → FirstIsOne → FoundWithinBudget → DoneWithinBudget → LineLaws
line_laws readings outcomes texts trees agree breaches apart firsts found done =
    record {
      sources = record { readings = readings; outcomes = outcomes; texts = texts; trees = trees; agree = agree; breaches = breaches; apart = apart };
      firsts = firsts;
      found = found;
      done = done;
    }
