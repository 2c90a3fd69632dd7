-- Files that are held in memory.
use Rattle.std.specs.Prelude.{ℕ, List, Option}
use Rattle.std.specs.List.{find}
use Rattle.std.specs.Option.{option_map}
use Rattle.std.specs.Str.{bytes_eq}

-- names with the bytes of their files
abbrev pub NamedFiles : Type 0
NamedFiles = List (List ℕ × List ℕ)

-- the bytes of the first file of this name
abbrev pub file_of : NamedFiles → List ℕ → Option (List ℕ)
file_of files name = option_map (λ file. file.1) (find (λ file. bytes_eq file.0 name) files)

-- a shelf in memory: its files, and what is left of the open one
pub record OpenFiles : Type 0 where
  pub files : NamedFiles
  pub rest : List ℕ
