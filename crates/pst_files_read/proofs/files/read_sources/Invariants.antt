use Rattle.std.proofs.Common.{map, string_bytes}
use Rattle.pst_files_read.proofs.Sources.{IsReadingFiles}
use Rattle.pst_files_read.proofs.files.read_sources.Given as goal

-- the sources so far are read
abbrev pub invariant-loop-number : goal.invariant-loop-number
invariant-loop-number g l =
    IsReadingFiles (g.S.Shelf.files l.initial.shelf) (g.S.Shelf.files l.shelf) (g.S.Shelf.faults l.initial.shelf) (g.S.Shelf.faults l.shelf)
    (map string_bytes l.arguments) l.number l.texts.items l.left
