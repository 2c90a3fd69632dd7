-- Files on the way, as they are read.
use Rattle.std.specs.Prelude.{◌≡◌, ℕ, ◌-◌, List, length, take, Option, Some}
use Rattle.std.specs.List.{sum_by}
use Rattle.std.specs.Option.{ForSome}
use Rattle.pst_io.specs.Shelf.{Files}
use Rattle.pst_files_read.specs.Limits.{most_bytes}
use Rattle.pst_files_read.specs.Files.{AreRead, sources_in}
use Rattle.pst_files_read.specs.declared.files.FileFault.{FileFault}
use Rattle.pst_files_read.specs.declared.files.FileFault.TheVariants as fault
use Rattle.pst_files_read.specs.declared.files.FileEnd.{FileEnd}
use Rattle.pst_files_read.specs.declared.files.FileEnd.TheVariants as end

-- where the files are told, the file is there and all of it is left to read
abbrev pub IsOpen : Option Files → List ℕ → Option (List ℕ) → Type 0
IsOpen files name rest = ForSome files (λ f. (bytes : List ℕ) × (f name ≡ Some bytes) × (rest ≡ Some bytes))

-- the same of the file that a word names
abbrev pub end_of : FileFault → ℕ → FileEnd
end_of fault.Missing word = end.Missing word
end_of fault.Failed word = end.Failed word
end_of fault.TooLong word = end.TooLarge
end_of fault.NoMemory word = end.NoMemory

-- the texts of the sources among so many arguments, and how many bytes more there may be
pub record AreReadSoFar (files : Option Files) (arguments : List (List ℕ)) (number : ℕ) (texts : List (List ℕ)) (left : ℕ) : Type 0 where
  pub read : AreRead files (sources_in (take number arguments)) texts
  pub left_is : left ≡ most_bytes - sum_by length texts
