-- Which answer and text are right for words: the page to read first. Each step gives way to those before it: the words, the files in turn, what
-- their texts come to (`Sources`), and what is done with their model (`Models`).
use Rattle.std.specs.Prelude.{◌≡◌, ℕ, ◌+◌, ◌-◌, List, [], length, Option, Some, None}
use Rattle.std.specs.List.{sum_by}
use Rattle.pst_base.specs.Fault.{HasRisen}
use Rattle.pst_io.specs.Shelf.{Files}
use Rattle.pst_model.specs.ModelTree.{ModelTree}
use Rattle.pst_words.specs.declared.command.Command.{Command}
use Rattle.pst_words.specs.declared.command.Lines.{Lines}
use Rattle.pst_words.specs.Lines.{IsLine, IsWrongWord}
use Rattle.pst_run_alone.specs.Lanes.{Lane, AreUncalled}
use Rattle.pst_files_read.specs.Limits.{most_bytes, most_trace}
use Rattle.pst_files_read.specs.Files.{AreRead, IsReached, IsTraceWord, IsTraceRead, IsMissing, IsLonger, sources_in}
use Rattle.pst_outcome.specs.declared.answer.Answer.{Answer}
use Rattle.pst_outcome.specs.declared.answer.Answer.TheVariants.{Usage, NoFile, ReadFault, Large}
use Rattle.pst_outcome.specs.declared.answer.What.TheVariants as what
use Rattle.pst_outcome.specs.declared.task.Task.{Task}
use Rattle.pst_outcome.specs.Texts.{usage_text, no_file_text, read_fault_text, large_text}
use Rattle.pst_outcome.specs.Tasks.{IsRoot, AreSources, IsTask}
use Rattle.pst_outcome.specs.Sources.{Front, Ends, HasModel, OfTexts}
use Rattle.pst_outcome.specs.Models.{OfModel}

-- ---- files

-- The word of that number names the next file to be read: a source behind those that were read, or the trace file behind all of them.
pub data IsNext (files : Option Files) (arguments : List (List ℕ)) (word : ℕ) (name : List ℕ) : Type 0 where
  ASource : (texts : List (List ℕ)) → IsReached files arguments word name texts → IsNext files arguments word name
  TheTrace : (texts : List (List ℕ)) → AreRead files (sources_in arguments) texts → IsTraceWord arguments word name → IsNext files arguments word name

-- A file isn't there, can't be read or is too large. The shelf's count of faults was and is that.
pub data OfFiles (files : Option Files) (old new : ℕ) (arguments : List (List ℕ)) : Answer → List ℕ → Type 0 where
  IsNoFile : (word : ℕ) (name : List ℕ) → new ≡ old → IsNext files arguments word name → IsMissing files name
      → OfFiles files old new arguments (NoFile word) (no_file_text name)
  IsUnread : (word : ℕ) (name : List ℕ) → HasRisen old new → IsNext files arguments word name
      → OfFiles files old new arguments (ReadFault word) (read_fault_text name)
  HasManyBytes : (word : ℕ) (name : List ℕ) (texts : List (List ℕ)) → new ≡ old → IsReached files arguments word name texts → IsLonger files name (most_bytes - sum_by length texts)
      → OfFiles files old new arguments (Large what.Bytes (most_bytes + 1)) (large_text what.Bytes (most_bytes + 1))
  HasLongTrace : (word : ℕ) (name : List ℕ) (texts : List (List ℕ)) → new ≡ old → AreRead files (sources_in arguments) texts → IsTraceWord arguments word name → IsLonger files name most_trace
      → OfFiles files old new arguments (Large what.Trace (most_trace + 1)) (large_text what.Trace (most_trace + 1))

-- All files of the line were read, and its sources come to that; the bytes of the trace file, where it has one.
pub record HasFront (files : Option Files) (old new : ℕ) (command : Command) (arguments : List (List ℕ)) (trace : Option (List ℕ)) (front : Front) : Type 0 where
  pub count : new ≡ old
  pub texts : List (List ℕ)
  pub read : AreRead files (sources_in arguments) texts
  pub trace_read : IsTraceRead files arguments trace
  pub sources : List (List ℕ)
  pub are_sources : AreSources command arguments texts sources
  pub component : List ℕ
  pub action : List ℕ
  pub is_root : IsRoot command arguments component action
  pub comes_to : OfTexts arguments component action sources front

-- ---- words

-- the bytes of a trace file, and none where there is no such file
abbrev pub bytes_of : Option (List ℕ) → List ℕ
bytes_of None = []
bytes_of (Some text) = text

-- Before anything is written: this answer and its text are right for the words, where these lines are served and so many lanes are there, for the
-- files where the shelf tells them, for the shelf's count of faults before and now, and for what the lanes tell.
pub data IsOwed (lines : Lines) (have : ℕ) (words : List (List ℕ)) (files : Option Files) (old new : ℕ) (told : List Lane) : Answer → List ℕ → Type 0 where
  -- the words are no line
  IsUsage : (word : ℕ) → AreUncalled told → new ≡ old → IsWrongWord lines have words word → IsOwed lines have words files old new told (Usage word) (usage_text word)
  -- a file of the line can't be had
  EndsAtFiles : (command : Command) (arguments : List (List ℕ)) (answer : Answer) (text : List ℕ) → AreUncalled told → IsLine lines have words command arguments
      → OfFiles files old new arguments answer text → IsOwed lines have words files old new told answer text
  -- its sources have no model
  EndsAtSources : (command : Command) (arguments : List (List ℕ)) (trace : Option (List ℕ)) (answer : Answer) (text : List ℕ) → AreUncalled told → IsLine lines have words command arguments
      → HasFront files old new command arguments trace (Ends answer text) → IsOwed lines have words files old new told answer text
  -- what the line asks for is done with their model
  IsServed : (command : Command) (arguments : List (List ℕ)) (trace : Option (List ℕ)) (names : List (List ℕ)) (m : ModelTree) (root : ℕ) (task : Task) (answer : Answer) (text : List ℕ)
      → IsLine lines have words command arguments → HasFront files old new command arguments trace (HasModel names m root) → IsTask command arguments task
      → OfModel names m root task (bytes_of trace) told answer text → IsOwed lines have words files old new told answer text
