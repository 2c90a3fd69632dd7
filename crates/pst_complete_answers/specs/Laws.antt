-- The law of complete answers.
use Rattle.std.specs.Prelude.{◌≡◌, ◌⊎◌, ℕ, ◌≤◌, List, length, Some}
use Rattle.pst_io.specs.Shelf.{Files}
use Rattle.pst_model.specs.ModelTree.{ModelTree}
use Rattle.pst_scen.specs.declared.scenario.Scenario.{Scenario}
use Rattle.pst_legal.specs.Legal.{Legal}
use Rattle.pst_legal.specs.First.{IsFirst}
use Rattle.pst_live_lists.specs.Few.{FewLive, IsUpTo, IsSearched}
use Rattle.pst_sweep_table.specs.declared.row.Outcome.{Outcome}
use Rattle.pst_sweep_table.specs.declared.row.Outcome.TheVariants as row
use Rattle.pst_sweep_table.specs.Counts.{uses_of, no_uses}
use Rattle.pst_sweep_table.specs.Rows.{MayCome}
use Rattle.pst_run_alone.specs.Lanes.{Lane}
use Rattle.pst_words.specs.declared.command.Lines.{Lines}
use Rattle.pst_outcome.specs.declared.answer.Answer.{Answer}
use Rattle.pst_outcome.specs.declared.answer.Answer.TheVariants.{Swept, NoScenario, NoMemory}
use Rattle.pst_outcome.specs.Delivered.{Writing, Answers}
use Rattle.pst_complete_answers.specs.Complete.{Asked, AreAsking, AreSweeping, CallsSucceed, IsLegalInTime, IsFoundInTime, IsMissedInTime, CanBeDone, IsGood, IsGoodForFirst}

-- The words are a line whose sources have a model, no call of the shelf or the sink fails, the first legal scenario is found within the budget, and where
-- it is run, it runs freely: then the answer is good, or memory ran out.
abbrev pub FoundLinesAreComplete : Type 0
FoundLinesAreComplete =
    (lines : Lines) (have : ℕ) (words : List (List ℕ)) (files : Files) (old new : ℕ) (told : List Lane) (w : Writing) (answer : Answer) (asked : Asked) (s : Scenario)
    → AreAsking lines have words files old new asked → CallsSucceed old new w → IsFoundInTime asked s → CanBeDone asked.names asked.model s told asked.task.work
    → Answers lines have words (Some files) old new told w answer
    → IsGood (length s.actions) asked.command answer ⊎ (answer ≡ NoMemory)

-- The same where any legal scenario is known to stand within the budget: then there is a first one, and the answer is good for it, or memory ran out.
abbrev pub LegalLinesAreComplete : Type 0
LegalLinesAreComplete =
    (lines : Lines) (have : ℕ) (words : List (List ℕ)) (files : Files) (old new : ℕ) (told : List Lane) (w : Writing) (answer : Answer) (asked : Asked)
    → AreAsking lines have words files old new asked → CallsSucceed old new w → IsLegalInTime asked
    → ((s : Scenario) → IsFirst asked.model asked.root asked.task.seed asked.task.infer s → CanBeDone asked.names asked.model s told asked.task.work)
    → Answers lines have words (Some files) old new told w answer
    → IsGoodForFirst asked answer ⊎ (answer ≡ NoMemory)

-- The words are a line whose sources have a model, no call of the shelf or the sink fails, and there is no legal scenario, which is known within the
-- budget: then the answer is that there is none, or memory ran out.
abbrev pub OtherLinesAreComplete : Type 0
OtherLinesAreComplete =
    (lines : Lines) (have : ℕ) (words : List (List ℕ)) (files : Files) (old new : ℕ) (told : List Lane) (w : Writing) (answer : Answer) (asked : Asked)
    → AreAsking lines have words files old new asked → CallsSucceed old new w → IsMissedInTime asked
    → Answers lines have words (Some files) old new told w answer
    → (answer ≡ NoScenario) ⊎ (answer ≡ NoMemory)

-- The words are a line that asks for a sweep and whose sources have a model, and no call of the shelf or the sink fails: then the rows are shown, or
-- memory ran out.
abbrev pub SweptLinesAreComplete : Type 0
SweptLinesAreComplete =
    (lines : Lines) (have : ℕ) (words : List (List ℕ)) (files : Files) (old new : ℕ) (told : List Lane) (w : Writing) (answer : Answer) (asked : Asked)
    → AreSweeping lines have words files old new asked → CallsSucceed old new w
    → Answers lines have words (Some files) old new told w answer
    → ((found : ℕ) × (answer ≡ Swept found)) ⊎ (answer ≡ NoMemory)

-- ---- rows of a sweep

-- Where a seed has a first legal scenario, and fewer live lists than the budget stand up to its list of choices, and including it, the row is that
-- scenario's.
abbrev pub FoundRowsAreFixed : Type 0
FoundRowsAreFixed =
    (m : ModelTree) (root infer budget seed : ℕ) (s : Scenario) (first : IsFirst m root seed infer s) (outcome : Outcome) (uses : List ℕ)
    → FewLive m root seed budget (IsUpTo s.level first.choices) → MayCome m root infer budget seed outcome uses
    → (outcome ≡ row.Found (length s.actions) s.level) × (uses ≡ uses_of m s)

-- Where no scenario of a level that is searched is legal, and fewer live lists than the budget stand in these levels, the row says that there is none.
abbrev pub MissedRowsAreFixed : Type 0
MissedRowsAreFixed =
    (m : ModelTree) (root infer budget seed : ℕ) (outcome : Outcome) (uses : List ℕ) → ((s : Scenario) → s.level ≤ infer → Legal m root s → ⊥)
    → FewLive m root seed budget (IsSearched infer) → MayCome m root infer budget seed outcome uses → (outcome ≡ row.NoScenario) × (uses ≡ no_uses m)
