-- How a shelf in memory is kept.
use Rattle.std.specs.Prelude.{ℕ, ◌<◌, ◌≤◌, List, [], length, map, drop, Option, None, Some, String, string_bytes}
use Rattle.std.specs.Global.{Vec}
use Rattle.std.specs.declared.alloc.Global.{Global}
use Rattle.std.specs.Option.{ForSome}
use Rattle.std.specs.List.{slice_index_or}
use Rattle.pst_io.specs.Named.{NamedFiles, OpenFiles}
use Rattle.pst_io.specs.declared.sure_shelf.Reading.{Reading}
use Rattle.pst_io.specs.declared.sure_shelf.SureShelf.TheInside.{Inside}

-- the names and bytes of files
abbrev pub named : List (String Global × Vec ℕ) → NamedFiles
named files = map (λ file. (string_bytes file.0, file.1.items)) files

-- what is left of the file that is read
abbrev pub rest_of : NamedFiles → Option Reading → List ℕ
rest_of files None = []
rest_of files (Some reading) = drop reading.at (slice_index_or files reading.file ([], [])).1

-- the files, and what is left of the open one
abbrev pub open_files : Inside → OpenFiles
open_files shelf = record { files = named shelf.files.items; rest = rest_of (named shelf.files.items) shelf.reading }

-- the open file is one of the shelf's, and its place is within it
abbrev pub IsWithin : Inside → Type 0
IsWithin shelf = ForSome shelf.reading (λ reading. (reading.file < length shelf.files.items) × (reading.at ≤ length (slice_index_or (named shelf.files.items) reading.file ([], [])).1))
