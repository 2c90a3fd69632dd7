-- Requests: what words come to before any lane is called.
use Rattle.std.specs.Prelude.{◌≡◌, ◌<◌, ◌≤◌, ℕ, List, length, string_bytes, Option}
use Rattle.pst_io.specs.Shelf.{Files}
use Rattle.pst_model.specs.ModelView.{view_model}
use Rattle.pst_model.specs.Sound.{IsSound}
use Rattle.pst_built.specs.Laws.{IsConcreteRoot}
use Rattle.pst_run_alone.specs.Lanes.{Lane, AreUncalled}
use Rattle.pst_words.specs.declared.command.Lines.{Lines}
use Rattle.pst_files_read.specs.Limits.{most_trace}
use Rattle.pst_outcome.specs.declared.answer.Answer.{Answer}
use Rattle.pst_outcome.specs.declared.answer.Answer.TheVariants.{Usage}
use Rattle.pst_outcome.specs.Texts.{usage_text}
use Rattle.pst_outcome.specs.Tasks.{FitsLanes, IsAskedBy}
use Rattle.pst_outcome.specs.Models.{OfModel}
use Rattle.pst_outcome.specs.Outcome.{IsOwed, bytes_of}
use Rattle.pst_portable.specs.Replies.{Says}
use Rattle.pst_portable.specs.declared.request.Question.{Question}
use Rattle.pst_portable.specs.declared.request.Request.{Request}
use Rattle.pst_portable.specs.declared.request.Request.TheVariants.{Answered, Asked}

-- the calls that answer a question may be made, where these lines are served and so many lanes are there
pub record IsReady (lines : Lines) (have : ℕ) (q : Question) : Type 0 where
  pub sound : IsSound (view_model q.model)
  pub concrete : IsConcreteRoot (view_model q.model) q.root
  pub small : length (bytes_of q.trace) ≤ most_trace
  pub some : 0 < have
  pub few : have ≤ 16
  pub fits : FitsLanes have q.task.work
  pub asked : IsAskedBy lines q.task.work

abbrev pub IsServable : Lines → ℕ → Request → Type 0
IsServable lines have (Answered reply) = Unit {0}
IsServable lines have (Asked q) = IsReady lines have q

-- the request answers that the word is wrong
abbrev pub SaysUsage : ℕ → Request → Type 0
SaysUsage word (Answered reply) = Says (Usage word) (usage_text word) reply
SaysUsage word (Asked q) = ⊥

-- what is answered to a request on lanes that tell that, with the text of the answer
abbrev pub IsAnswered : Request → List Lane → Answer → List ℕ → Type 0
IsAnswered (Answered reply) lanes answer text = AreUncalled lanes × (answer ≡ reply.answer) × (text ≡ string_bytes reply.text)
IsAnswered (Asked q) lanes answer text = OfModel q.names (view_model q.model) q.root q.task (bytes_of q.trace) lanes answer text

-- The words come to this request: what is answered to it is right for them.
abbrev pub IsRequest : Lines → ℕ → List (List ℕ) → Option Files → ℕ → ℕ → Request → Type 0
IsRequest lines have words files old new request =
    (lanes : List Lane) (answer : Answer) (text : List ℕ) → IsAnswered request lanes answer text → IsOwed lines have words files old new lanes answer text
