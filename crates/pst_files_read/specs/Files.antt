-- The files that the words of a line name, and what is read of them, one after another.
use Rattle.std.specs.Prelude.{◌≡◌, ℕ, ◌+◌, ◌-◌, ◌<◌, ◌≤◌, true, false, List, ◌++◌, length, take, drop, if◌then◌else◌, slice_get, Option, Some, None, Result, Ok, Err}
use Rattle.std.specs.List.{AllZip, filter, list_any, sum_by}
use Rattle.std.specs.Option.{ForSome}
use Rattle.pst_base.specs.Fault.{HasRisen}
use Rattle.pst_io.specs.Shelf.{Files}
use Rattle.pst_words.specs.declared.key.Key.TheVariants.{Trace}
use Rattle.pst_words.specs.Table.{key_start}
use Rattle.pst_words.specs.Lines.{is_file, is_of}
use Rattle.pst_files_read.specs.Limits.{most_bytes, most_trace}
use Rattle.pst_files_read.specs.declared.files.FileFault.{FileFault}
use Rattle.pst_files_read.specs.declared.files.FileFault.TheVariants as fault
use Rattle.pst_files_read.specs.declared.files.FileEnd.{FileEnd}
use Rattle.pst_files_read.specs.declared.files.FileEnd.TheVariants as end

-- the names of the sources among the words behind a command, in order
abbrev pub sources_in : List (List ℕ) → List (List ℕ)
sources_in arguments = filter is_file arguments

-- These are the texts of the files of these names, where the shelf tells its files, and together they are within the limit.
pub record AreRead (files : Option Files) (names texts : List (List ℕ)) : Type 0 where
  pub each : ForSome files (λ f. AllZip (λ name text. f name ≡ Some text) names texts)
  pub as_many : length texts ≡ length names
  pub small : sum_by length texts ≤ most_bytes

-- The word of that number names a source, and these are the texts of the sources before it. The command is word 0.
pub record IsReached (files : Option Files) (arguments : List (List ℕ)) (word : ℕ) (name : List ℕ) (texts : List (List ℕ)) : Type 0 where
  pub before : ℕ
  pub word_is : word ≡ before + 1
  pub there : slice_get arguments before ≡ Some name
  pub is_source : is_file name ≡ true
  pub read : AreRead files (sources_in (take before arguments)) texts

-- The word of that number is the first to give the name of a trace file.
pub record IsTraceWord (arguments : List (List ℕ)) (word : ℕ) (name : List ℕ) : Type 0 where
  pub before : ℕ
  pub word_is : word ≡ before + 1
  pub there : slice_get arguments before ≡ Some (key_start Trace ++ name)
  pub first : list_any (is_of Trace) (take before arguments) ≡ false

-- the name that a word gives of a file: that of a trace file stands behind its key, that of a source is the word
abbrev pub given_name : List ℕ → List ℕ
given_name word = if is_of Trace word then drop (length (key_start Trace)) word else word

-- where the shelf tells its files it has none of this name
abbrev pub IsMissing : Option Files → List ℕ → Type 0
IsMissing files name = ForSome files (λ f. f name ≡ None)

-- where the shelf tells its files it has this one, of more bytes than that
abbrev pub IsLonger : Option Files → List ℕ → ℕ → Type 0
IsLonger files name most = ForSome files (λ f. (text : List ℕ) × (f name ≡ Some text) × (most < length text))

-- ---- one file

-- what was found under a name, where so many bytes are allowed and the shelf's count of faults was and is that
abbrev pub Finds : Option Files → ℕ → ℕ → List ℕ → ℕ → Result (List ℕ) FileFault → Type 0
Finds files old new name most (Ok text) = (new ≡ old) × ForSome files (λ f. f name ≡ Some text) × (length text ≤ most)
Finds files old new name most (Err fault.Missing) = (new ≡ old) × IsMissing files name
Finds files old new name most (Err fault.Failed) = HasRisen old new
Finds files old new name most (Err fault.TooLong) = (new ≡ old) × IsLonger files name most
Finds files old new name most (Err fault.NoMemory) = Unit {0}

-- ---- all sources

-- why the sources weren't all read: the first that isn't there, couldn't be read, or has too many bytes with those before it
abbrev pub IsSourcesEnd : Option Files → ℕ → ℕ → List (List ℕ) → FileEnd → Type 0
IsSourcesEnd files old new arguments (end.Missing word) = (new ≡ old) × ((name : List ℕ) × (texts : List (List ℕ)) × IsReached files arguments word name texts × IsMissing files name)
IsSourcesEnd files old new arguments (end.Failed word) = HasRisen old new × ((name : List ℕ) × (texts : List (List ℕ)) × IsReached files arguments word name texts)
IsSourcesEnd files old new arguments end.TooLarge =
    (new ≡ old) × ((word : ℕ) × (name : List ℕ) × (texts : List (List ℕ)) × IsReached files arguments word name texts × IsLonger files name (most_bytes - sum_by length texts))
IsSourcesEnd files old new arguments end.NoMemory = Unit {0}

-- ---- the trace file

-- no word gives the name of a trace file, or these are the bytes of the file, where the shelf tells it
abbrev pub IsTraceRead : Option Files → List (List ℕ) → Option (List ℕ) → Type 0
IsTraceRead files arguments None = list_any (is_of Trace) arguments ≡ false
IsTraceRead files arguments (Some text) =
    (word : ℕ) × (name : List ℕ) × IsTraceWord arguments word name × ForSome files (λ f. f name ≡ Some text) × (length text ≤ most_trace)

-- why the trace file wasn't read
abbrev pub IsTraceEnd : Option Files → ℕ → ℕ → List (List ℕ) → FileEnd → Type 0
IsTraceEnd files old new arguments (end.Missing word) = (new ≡ old) × ((name : List ℕ) × IsTraceWord arguments word name × IsMissing files name)
IsTraceEnd files old new arguments (end.Failed word) = HasRisen old new × ((name : List ℕ) × IsTraceWord arguments word name)
IsTraceEnd files old new arguments end.TooLarge = (new ≡ old) × ((word : ℕ) × (name : List ℕ) × IsTraceWord arguments word name × IsLonger files name most_trace)
IsTraceEnd files old new arguments end.NoMemory = Unit {0}
