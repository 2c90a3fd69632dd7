-- The trace file.
use Rattle.std.proofs.Common.{◌≡◌, ◌∙◌, ℕ, ◌+◌, Bool, true, false, List, [], ◌∷◌, ◌++◌, take, refl, ap, sym, subst, inl, inr}
use Rattle.std.specs.Prelude.{Option, Some, slice_get, Err, ◌⊎◌, ◌||◌}
use Rattle.std.specs.List.{list_any}
use Rattle.std.proofs.lemmas.List.Folds.{list_any-append}
use Rattle.pst_io.specs.Shelf.{Files}
use Rattle.pst_words.specs.declared.key.Key.TheVariants.{Trace}
use Rattle.pst_words.specs.Table.{key_start}
use Rattle.pst_words.specs.Lines.{is_of}
use Rattle.pst_files_read.specs.Limits.{most_trace}
use Rattle.pst_files_read.specs.Files.{Finds, IsTraceWord, IsTraceEnd}
use Rattle.pst_files_read.specs.FilesRead.{end_of}
use Rattle.pst_files_read.specs.declared.files.FileFault.{FileFault}
use Rattle.pst_files_read.specs.declared.files.FileFault.TheVariants as fault
use Rattle.pst_files_read.specs.declared.files.FileEnd.{FileEnd}
use Rattle.pst_files_read.specs.declared.files.FileEnd.TheVariants as end

or_false : (a b : Bool) → a ≡ false → b ≡ false → (a || b) ≡ false
or_false true b e f = e
or_false false b e f = f

-- another word that names no trace file
pub no_trace_more : (arguments : List (List ℕ)) (i : ℕ) (word : List ℕ) → take (i + 1) arguments ≡ take i arguments ++ word ∷ []
    → list_any (is_of Trace) (take i arguments) ≡ false → is_of Trace word ≡ false → list_any (is_of Trace) (take (i + 1) arguments) ≡ false
no_trace_more arguments i word more before here =
    ap (list_any (is_of Trace)) more ∙ list_any-append (is_of Trace) (take i arguments) (word ∷ [])
    ∙ or_false (list_any (is_of Trace) (take i arguments)) (is_of Trace word || false) before (or_false (is_of Trace word) false here refl)

pub trace_end : (files : Option Files) (old new : ℕ) (arguments : List (List ℕ)) (word : ℕ) (name : List ℕ) (f : FileFault) (e : FileEnd)
    → IsTraceWord arguments word name → Finds files old new name most_trace (Err f) → (e ≡ end.NoMemory) ⊎ (e ≡ end_of f word) → IsTraceEnd files old new arguments e
trace_end files old new arguments word name f e is found (inl gave_up) = subst (IsTraceEnd files old new arguments) (sym gave_up) tt
trace_end files old new arguments word name f e is found (inr same) = subst (IsTraceEnd files old new arguments) (sym same) (by_fault f found)
  where
    by_fault : (g : FileFault) → Finds files old new name most_trace (Err g) → IsTraceEnd files old new arguments (end_of g word)
    by_fault fault.Missing h = (h.0, (name, is, h.1))
    by_fault fault.Failed h = (h, (name, is))
    by_fault fault.TooLong h = (h.0, (word, name, is, h.1))
    by_fault fault.NoMemory h = tt

-- the next word is the first to name one
pub trace_word : (arguments : List (List ℕ)) (i : ℕ) (word name : List ℕ) → slice_get arguments i ≡ Some word → word ≡ key_start Trace ++ name
    → list_any (is_of Trace) (take i arguments) ≡ false → IsTraceWord arguments (i + 1) name
trace_word arguments i word name there is none = record { before = i; word_is = refl; there = there ∙ ap Some is; first = none }
