-- Replies: an answer and its text, before it is written.
use Rattle.std.specs.Prelude.{◌≡◌, ◌⊎◌, ℕ, List, string_bytes}
use Rattle.pst_run_alone.specs.Lanes.{Lane, AreUncalled}
use Rattle.pst_words.specs.declared.command.Command.{Command}
use Rattle.pst_outcome.specs.declared.answer.Answer.{Answer}
use Rattle.pst_outcome.specs.declared.answer.Answer.TheVariants.{WriteFault, NoMemory}
use Rattle.pst_outcome.specs.declared.reply.Reply.{Reply}
use Rattle.pst_outcome.specs.declared.task.Task.{Task}
use Rattle.pst_outcome.specs.Tasks.{IsTask}
use Rattle.pst_outcome.specs.Sources.{Front, Ends, HasModel}
use Rattle.pst_outcome.specs.Models.{OfModel}
use Rattle.pst_outcome.specs.Delivered.{Writing, Writes, Breaks, Leaves}

-- the reply has this answer and this text
pub record Says (answer : Answer) (text : List ℕ) (reply : Reply) : Type 0 where
  pub answer_is : reply.answer ≡ answer
  pub text_is : string_bytes reply.text ≡ text

-- what is answered where the files and sources of a line come to that, and its trace file has these bytes: an answer that was found on the way, or
-- what is done with a model
abbrev pub IsDone : Command → List (List ℕ) → List ℕ → List Lane → Front → Answer → List ℕ → Type 0
IsDone command arguments trace lanes (Ends found known) answer text = AreUncalled lanes × (answer ≡ found) × (text ≡ known)
IsDone command arguments trace lanes (HasModel names m root) answer text = (task : Task) × IsTask command arguments task × OfModel names m root task trace lanes answer text

-- what is answered once the text of a reply was to be written
abbrev pub Delivers : Reply → Writing → Answer → Type 0
Delivers reply w result =
    ((result ≡ reply.answer) × Writes w (string_bytes reply.text))
    ⊎ (((result ≡ WriteFault) × Breaks w (string_bytes reply.text)) ⊎ ((result ≡ NoMemory) × Leaves w))
