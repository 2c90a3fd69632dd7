-- What is answered once the text of an answer was to be written.
use Rattle.std.specs.Prelude.{◌≡◌, ℕ, ◌<◌, List, length, take, Option}
use Rattle.std.specs.Io.KnownBytes.{append_known}
use Rattle.pst_base.specs.Fault.{HasRisen}
use Rattle.pst_io.specs.Shelf.{Files}
use Rattle.pst_words.specs.declared.command.Lines.{Lines}
use Rattle.pst_outcome.specs.declared.answer.Answer.{Answer}
use Rattle.pst_outcome.specs.declared.answer.Answer.TheVariants.{WriteFault, NoMemory}
use Rattle.pst_run_alone.specs.Lanes.{Lane, HaveMade}
use Rattle.pst_outcome.specs.Outcome.{IsOwed}

-- what was written before the call and after it, where it is told, and the sink's count of faults
pub record Writing : Type 0 where
  pub before : Option (List ℕ)
  pub after : Option (List ℕ)
  pub faults_before : ℕ
  pub faults_after : ℕ

abbrev pub writing : Option (List ℕ) → Option (List ℕ) → ℕ → ℕ → Writing
writing before after faults_before faults_after = record { before = before; after = after; faults_before = faults_before; faults_after = faults_after }

-- the text was written whole, and nothing else
pub record Writes (w : Writing) (text : List ℕ) : Type 0 where
  pub written : w.after ≡ append_known w.before text
  pub count : w.faults_after ≡ w.faults_before

-- a part of the text was written and not the whole, and the sink failed
pub record Breaks (w : Writing) (text : List ℕ) : Type 0 where
  pub many : ℕ
  pub part : many < length text
  pub written : w.after ≡ append_known w.before (take many text)
  pub count : HasRisen w.faults_before w.faults_after

-- nothing was written
pub record Leaves (w : Writing) : Type 0 where
  pub written : w.after ≡ w.before
  pub count : w.faults_after ≡ w.faults_before

-- the answer is right, and its text was written
pub record HasAnswered (lines : Lines) (have : ℕ) (words : List (List ℕ)) (files : Option Files) (old new : ℕ) (told : List Lane) (w : Writing) (answer : Answer) : Type 0 where
  pub text : List ℕ
  pub owed : IsOwed lines have words files old new told answer text
  pub writes : Writes w text

-- a right answer was to be given, and the sink failed at its text
pub record HasBroken (lines : Lines) (have : ℕ) (words : List (List ℕ)) (files : Option Files) (old new : ℕ) (told : List Lane) (w : Writing) : Type 0 where
  pub answer : Answer
  pub text : List ℕ
  pub owed : IsOwed lines have words files old new told answer text
  pub breaks : Breaks w text

-- nothing was written; calls of the lanes may have been made
pub record HasNoMemory (told : List Lane) (w : Writing) : Type 0 where
  pub leaves : Leaves w
  pub made : HaveMade told

-- the answer of the program
abbrev pub Answers : Lines → ℕ → List (List ℕ) → Option Files → ℕ → ℕ → List Lane → Writing → Answer → Type 0
Answers lines have words files old new told w WriteFault = HasBroken lines have words files old new told w
Answers lines have words files old new told w NoMemory = HasNoMemory told w
Answers lines have words files old new told w answer = HasAnswered lines have words files old new told w answer
