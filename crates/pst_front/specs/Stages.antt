-- Stages: an answer and its text before it is written, or a model.
use Rattle.std.specs.Prelude.{◌≡◌, ℕ, ◌+◌, ◌-◌, true, false, List, [], get_or, string_bytes, Option}
use Rattle.pst_io.specs.Shelf.{Files}
use Rattle.pst_model.specs.ModelView.{view_model}
use Rattle.pst_model.specs.Sound.{IsSound}
use Rattle.pst_built.specs.Laws.{IsConcreteRoot}
use Rattle.pst_lexer.specs.declared.fault.LexFault.{LexFault}
use Rattle.pst_lexer.specs.declared.fault.LexFault.TheVariants as fault
use Rattle.pst_sources_read.specs.Limits.{most_tokens}
use Rattle.pst_sources_read.specs.declared.parsing.UnitsEnd.{UnitsEnd}
use Rattle.pst_sources_read.specs.declared.parsing.UnitsEnd.TheVariants as units
use Rattle.pst_elab_rules.specs.declared.end.ElabEnd.{ElabEnd}
use Rattle.pst_elab_rules.specs.declared.end.ElabEnd.TheVariants as elab
use Rattle.pst_words.specs.declared.command.Command.{Command}
use Rattle.pst_files_read.specs.declared.files.FileEnd.{FileEnd}
use Rattle.pst_files_read.specs.declared.files.FileEnd.TheVariants as end
use Rattle.pst_files_read.specs.Files.{given_name}
use Rattle.pst_outcome.specs.declared.answer.Answer.{Answer}
use Rattle.pst_outcome.specs.declared.answer.Answer.TheVariants.{NoFile, ReadFault, Large, Lexical, Syntax, Rule}
use Rattle.pst_outcome.specs.declared.answer.What.{What}
use Rattle.pst_outcome.specs.declared.answer.What.TheVariants.{Tokens, Instances}
use Rattle.pst_outcome.specs.Texts.{source_name, no_file_text, read_fault_text, large_text, lexical_text, syntax_text, rule_text}
use Rattle.pst_outcome.specs.Sources.{Front, Ends, HasModel}
use Rattle.pst_outcome.specs.Outcome.{OfFiles, HasFront}
use Rattle.pst_front.specs.declared.stage.Stage.{Stage}
use Rattle.pst_front.specs.declared.stage.Stage.TheVariants.{Ended, Elaborated}

-- what a stage says of sources
abbrev pub front_of : Stage → Front
front_of (Ended reply) = Ends reply.answer (string_bytes reply.text)
front_of (Elaborated names model root) = HasModel names (view_model model) root

-- a model is sound, and its root isn't abstract
abbrev pub HasSoundModel : Stage → Type 0
HasSoundModel (Ended reply) = Unit {0}
HasSoundModel (Elaborated names model root) = IsSound (view_model model) × IsConcreteRoot (view_model model) root

-- this holds of what the stage says, and a model is sound
pub record IsStage (R : Front → Type 0) (stage : Stage) : Type 0 where
  pub right : R (front_of stage)
  pub sound : HasSoundModel stage

-- the stage has this answer and this text
abbrev pub Says : Answer → List ℕ → Stage → Type 0
Says answer text (Ended reply) = (reply.answer ≡ answer) × (string_bytes reply.text ≡ text)
Says answer text (Elaborated names model root) = ⊥

-- the stage of a reading of files that ended so, where this number is the limit on what is read, plus 1
abbrev pub SaysEnd : List (List ℕ) → What → ℕ → FileEnd → Stage → Type 0
SaysEnd arguments what number (end.Missing word) stage = Says (NoFile word) (no_file_text (given_name (get_or arguments (word - 1) []))) stage
SaysEnd arguments what number (end.Failed word) stage = Says (ReadFault word) (read_fault_text (given_name (get_or arguments (word - 1) []))) stage
SaysEnd arguments what number end.TooLarge stage = Says (Large what number) (large_text what number) stage
SaysEnd arguments what number end.NoMemory stage = ⊥

-- the stage at that fault of a text
abbrev pub SaysFault : List (List ℕ) → LexFault → Stage → Type 0
SaysFault arguments (fault.Bad place) stage = Says (Lexical false place) (lexical_text (source_name arguments place.file) false place) stage
SaysFault arguments (fault.Wide place) stage = Says (Lexical true place) (lexical_text (source_name arguments place.file) true place) stage
SaysFault arguments fault.Many stage = Says (Large Tokens (most_tokens + 1)) (large_text Tokens (most_tokens + 1)) stage
SaysFault arguments fault.NoMemory stage = ⊥

-- the stage where sources aren't units
abbrev pub SaysUnitsEnd : List (List ℕ) → UnitsEnd → Stage → Type 0
SaysUnitsEnd arguments (units.Faulty deep place) stage = Says (Syntax deep place) (syntax_text (source_name arguments place.file) deep place) stage
SaysUnitsEnd arguments units.NoMemory stage = ⊥

-- the stage where units have no model
abbrev pub SaysElabEnd : List (List ℕ) → ElabEnd → Stage → Type 0
SaysElabEnd arguments (elab.Broken place rule) stage = Says (Rule place rule) (rule_text (source_name arguments place.file) place rule) stage
SaysElabEnd arguments (elab.Many count) stage = Says (Large Instances count) (large_text Instances count) stage
SaysElabEnd arguments elab.NoMemory stage = ⊥

-- What a line comes to, whose trace file has these bytes where it has one: a file can't be had, or all were read.
pub data OfLine (files : Option Files) (old new : ℕ) (command : Command) (arguments : List (List ℕ)) (trace : Option (List ℕ)) : Front → Type 0 where
  AtFiles : (answer : Answer) (text : List ℕ) → OfFiles files old new arguments answer text → OfLine files old new command arguments trace (Ends answer text)
  BehindFiles : (front : Front) → HasFront files old new command arguments trace front → OfLine files old new command arguments trace front
