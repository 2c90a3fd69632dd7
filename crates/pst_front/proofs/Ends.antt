-- From readings of files to right answers.
use Rattle.std.proofs.Common.{◌≡◌, ◌∙◌, ℕ, suc, ◌+◌, ◌-◌, ◌≤◌, Bool, true, false, List, [], ◌∷◌, ◌++◌, length, get_or, drop, refl, ap, sym, subst, arith, cond}
use Rattle.std.specs.Prelude.{Option, Some, None, Result, Ok, Err, IfOk, slice_get, nat_eq, nat_lt, not, ◌&&◌}
use Rattle.std.specs.List.{list_any}
use Rattle.std.proofs.lemmas.Option.{get_or_from_slice_get}
use Rattle.std.proofs.lemmas.Bool.Decides.{Decides-eqb}
use Rattle.std.proofs.lemmas.Slice.Eq.{starts_is}
use Rattle.pst_base.specs.declared.memory.NoMemory.{NoMemory}
use Rattle.pst_base.specs.Fault.{HasRisen}
use Rattle.pst_io.specs.Shelf.{Files}
use Rattle.pst_words.specs.declared.command.Command.{Command}
use Rattle.pst_words.specs.declared.key.Key.TheVariants.{Trace}
use Rattle.pst_words.specs.Table.{key_start}
use Rattle.pst_words.specs.Lines.{is_file, is_of}
use Rattle.pst_files_read.specs.Limits.{most_bytes, most_trace}
use Rattle.pst_files_read.specs.declared.files.FileEnd.{FileEnd}
use Rattle.pst_files_read.specs.declared.files.FileEnd.TheVariants as end
use Rattle.pst_files_read.specs.Files.{AreRead, IsReached, IsTraceWord, IsSourcesEnd, IsTraceEnd, IsTraceRead, given_name, sources_in}
use Rattle.pst_outcome.specs.declared.answer.Answer.{Answer}
use Rattle.pst_outcome.specs.declared.answer.Answer.TheVariants as answer
use Rattle.pst_outcome.specs.declared.answer.What.TheVariants as what
use Rattle.pst_outcome.specs.Texts.{no_file_text, read_fault_text, large_text}
use Rattle.pst_outcome.specs.Outcome.{OfFiles, ASource, TheTrace, IsNoFile, IsUnread, HasManyBytes, HasLongTrace, bytes_of}
use Rattle.pst_front.specs.declared.stage.Stage.{Stage}
use Rattle.pst_front.specs.declared.front.LineFront.{LineFront}
use Rattle.pst_line_parts.specs.Lines.{ComesTo}
use Rattle.pst_front.specs.Stages.{front_of, IsStage, Says, SaysEnd, OfLine, AtFiles, BehindFiles}
use Rattle.pst_front.proofs.Said.{told}

and_false : (b : Bool) → (b && false) ≡ false
and_false true = refl
and_false false = refl

-- a word that gives the name of a trace file names no source
trace_no_source : (word : List ℕ) → is_of Trace word ≡ true → is_file word ≡ false
trace_no_source word h =
    let is = (starts_is Decides-eqb word (key_start Trace) (is_of Trace word) refl).0 h in
    ap is_file is ∙ no_source (drop (length (key_start Trace)) word)
  where
    no_source : (rest : List ℕ) → is_file (key_start Trace ++ rest) ≡ false
    no_source rest = and_false (nat_lt 0 (length (key_start Trace ++ rest)))

source_given : (name : List ℕ) → is_file name ≡ true → given_name name ≡ name
source_given name file = by_test (is_of Trace name) refl
  where
    by_test : (b : Bool) → is_of Trace name ≡ b → cond b (drop (length (key_start Trace)) name) name ≡ name
    by_test true h = let both : true ≡ false = sym file ∙ trace_no_source name h in absurd (cc)
    by_test false h = refl

-- the name that the word of a source gives
source_name : (files : Option Files) (arguments : List (List ℕ)) (word : ℕ) (name : List ℕ) (texts : List (List ℕ)) → IsReached files arguments word name texts → given_name (get_or arguments (word - 1) []) ≡ name
source_name files arguments word name texts reached =
    let at : word - 1 ≡ reached.before = let e = reached.word_is in omega (arith, e) in
    ap (λ n. given_name (get_or arguments n [])) at ∙ ap given_name (get_or_from_slice_get arguments reached.before name [] reached.there) ∙ source_given name reached.is_source

-- the name that the word of a trace file gives
trace_name : (arguments : List (List ℕ)) (word : ℕ) (name : List ℕ) → IsTraceWord arguments word name → given_name (get_or arguments (word - 1) []) ≡ name
trace_name arguments word name is =
    let at : word - 1 ≡ is.before = let e = is.word_is in omega (arith, e) in
    ap (λ n. given_name (get_or arguments n [])) at ∙ ap given_name (get_or_from_slice_get arguments is.before (key_start Trace ++ name) [] is.there)

named_as : (a : Answer) (text_of : List ℕ → List ℕ) (given name : List ℕ) (stage : Stage) → given ≡ name → Says a (text_of given) stage → Says a (text_of name) stage
named_as a text_of given name stage same h = subst (λ (n : List ℕ). Says a (text_of n) stage) same h

module _ (files : Option Files) (old new : ℕ) (command : Command) (arguments : List (List ℕ)) (trace : Option (List ℕ)) where
  at_files : (a : Answer) (text : List ℕ) (stage : Stage) → OfFiles files old new arguments a text → Says a text stage → IsStage (OfLine files old new command arguments trace) stage
  at_files a text stage right says = told (OfLine files old new command arguments trace) a text stage (AtFiles a text right) says

  sources_end : (e : FileEnd) (stage : Stage) → IsSourcesEnd files old new arguments e → SaysEnd arguments what.Bytes (most_bytes + 1) e stage → IsStage (OfLine files old new command arguments trace) stage
  sources_end (end.Missing word) stage (same, (name, texts, reached, gone)) says =
      at_files (answer.NoFile word) (no_file_text name) stage (IsNoFile word name same (ASource texts reached) gone)
      (named_as (answer.NoFile word) no_file_text (given_name (get_or arguments (word - 1) [])) name stage (source_name files arguments word name texts reached) says)
  sources_end (end.Failed word) stage (risen, (name, texts, reached)) says =
      at_files (answer.ReadFault word) (read_fault_text name) stage (IsUnread word name risen (ASource texts reached))
      (named_as (answer.ReadFault word) read_fault_text (given_name (get_or arguments (word - 1) [])) name stage (source_name files arguments word name texts reached) says)
  sources_end end.TooLarge stage (same, (word, name, texts, reached, long)) says =
      at_files (answer.Large what.Bytes (most_bytes + 1)) (large_text what.Bytes (most_bytes + 1)) stage (HasManyBytes word name texts same reached long) says
  sources_end end.NoMemory stage h says = absurd says

  trace_end : (texts : List (List ℕ)) (e : FileEnd) (stage : Stage) → AreRead files (sources_in arguments) texts → IsTraceEnd files old new arguments e → SaysEnd arguments what.Trace (most_trace + 1) e stage
      → IsStage (OfLine files old new command arguments trace) stage
  trace_end texts (end.Missing word) stage read (same, (name, is, gone)) says =
      at_files (answer.NoFile word) (no_file_text name) stage (IsNoFile word name same (TheTrace texts read is) gone)
      (named_as (answer.NoFile word) no_file_text (given_name (get_or arguments (word - 1) [])) name stage (trace_name arguments word name is) says)
  trace_end texts (end.Failed word) stage read (risen, (name, is)) says =
      at_files (answer.ReadFault word) (read_fault_text name) stage (IsUnread word name risen (TheTrace texts read is))
      (named_as (answer.ReadFault word) read_fault_text (given_name (get_or arguments (word - 1) [])) name stage (trace_name arguments word name is) says)
  trace_end texts end.TooLarge stage read (same, (word, name, is, long)) says =
      at_files (answer.Large what.Trace (most_trace + 1)) (large_text what.Trace (most_trace + 1)) stage (HasLongTrace word name texts same read is long) says
  trace_end texts end.NoMemory stage read h says = absurd says

-- the trace file that is read is small
pub trace_small : (files : Option Files) (arguments : List (List ℕ)) (trace : Option (List ℕ)) → IsTraceRead files arguments trace → length (bytes_of trace) ≤ most_trace
trace_small files arguments None read = omega arith
trace_small files arguments (Some text) read = read.4

module _ (files : Option Files) (old new : ℕ) (command : Command) (arguments : List (List ℕ)) where
  pub sources_ended : (e : FileEnd) (r : Result LineFront NoMemory) → IsSourcesEnd files old new arguments e → IfOk r (λ front. SaysEnd arguments what.Bytes (most_bytes + 1) e front.stage)
      → IfOk r (λ front. IsStage (OfLine files old new command arguments front.trace) front.stage)
  sources_ended e (Ok front) h says = sources_end files old new command arguments front.trace e front.stage h says
  sources_ended e (Err none) h says = tt

  pub trace_ended : (texts : List (List ℕ)) (e : FileEnd) (r : Result LineFront NoMemory) → AreRead files (sources_in arguments) texts → IsTraceEnd files old new arguments e
      → IfOk r (λ front. SaysEnd arguments what.Trace (most_trace + 1) e front.stage) → IfOk r (λ front. IsStage (OfLine files old new command arguments front.trace) front.stage)
  trace_ended texts e (Ok front) read h says = trace_end files old new command arguments front.trace texts e front.stage read h says
  trace_ended texts e (Err none) read h says = tt

  -- all files are read
  pub all_read : (texts : List (List ℕ)) (trace : Option (List ℕ)) (r : Result LineFront NoMemory) → new ≡ old → AreRead files (sources_in arguments) texts → IsTraceRead files arguments trace
      → IfOk r (λ front. IsStage (ComesTo command arguments texts) front.stage) → IfOk r (λ front. front.trace ≡ trace)
      → IfOk r (λ front. IsStage (OfLine files old new command arguments front.trace) front.stage)
  all_read texts trace (Ok front) same read traced h is =
      record {
        right = BehindFiles (front_of front.stage) (record {
          count = same;
          texts = texts;
          read = read;
          trace_read = subst (λ (t : Option (List ℕ)). IsTraceRead files arguments t) (sym is) traced;
          sources = h.right.sources;
          are_sources = h.right.are_sources;
          component = h.right.component;
          action = h.right.action;
          is_root = h.right.is_root;
          comes_to = h.right.comes_to;
        });
        sound = h.sound;
      }
  all_read texts trace (Err none) same read traced h is = tt

  pub all_small : (trace : Option (List ℕ)) (r : Result LineFront NoMemory) → IsTraceRead files arguments trace → IfOk r (λ front. front.trace ≡ trace) → IfOk r (λ front. length (bytes_of front.trace) ≤ most_trace)
  all_small trace (Ok front) traced is = subst (λ (t : Option (List ℕ)). length (bytes_of t) ≤ most_trace) (sym is) (trace_small files arguments trace traced)
  all_small trace (Err none) traced is = tt

-- files and a count that are the same
pub same_shelf : (files others : Option Files) (old other new : ℕ) (command : Command) (arguments : List (List ℕ)) (r : Result LineFront NoMemory) → others ≡ files → other ≡ old
    → IfOk r (λ front. IsStage (OfLine others other new command arguments front.trace) front.stage) → IfOk r (λ front. IsStage (OfLine files old new command arguments front.trace) front.stage)
same_shelf files others old other new command arguments r same count h =
    subst (λ (n : ℕ). IfOk r (λ front. IsStage (OfLine files n new command arguments front.trace) front.stage)) count
    (subst (λ (fs : Option Files). IfOk r (λ front. IsStage (OfLine fs other new command arguments front.trace) front.stage)) same h)
