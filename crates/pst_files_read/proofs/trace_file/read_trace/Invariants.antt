use Rattle.std.proofs.Common.{◌≡◌, map, string_bytes, take, false}
use Rattle.std.specs.List.{list_any}
use Rattle.pst_words.specs.declared.key.Key.TheVariants.{Trace}
use Rattle.pst_words.specs.Lines.{is_of}
use Rattle.pst_files_read.proofs.trace_file.read_trace.Given as goal

-- no word so far names a trace file, and the shelf wasn't called
abbrev pub invariant-loop-number : goal.invariant-loop-number
invariant-loop-number g l = (l.shelf ≡ l.initial.shelf) × (list_any (is_of Trace) (take l.number (map string_bytes l.arguments)) ≡ false)
