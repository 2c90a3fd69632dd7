-- Objects in memory, some of whose calls fail.
use Rattle.std.specs.Prelude.{ℕ, List}
use Rattle.pst_io.specs.Named.{NamedFiles}
use Rattle.pst_io.specs.Planned.{PlannedFaults}

-- a shelf: its files, what is left of the open one, and which calls fail
pub record FailingShelf : Type 0 where
  pub files : NamedFiles
  pub rest : List ℕ
  pub plan : PlannedFaults

-- a sink: the bytes written, how many more there is room for, how many are taken at a time, and which writes fail
pub record FailingSink : Type 0 where
  pub written : List ℕ
  pub spare : ℕ
  pub most : ℕ
  pub plan : PlannedFaults
