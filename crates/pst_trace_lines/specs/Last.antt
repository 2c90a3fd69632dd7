-- What a last line says.
use Rattle.std.specs.Prelude.{◌≡◌, ℕ, List}
use Rattle.pst_trace_lines.specs.declared.last.LastLine.{LastLine}
use Rattle.pst_trace_lines.specs.declared.last.LastLine.TheVariants.{Done, Fault, Trap}
use Rattle.pst_trace_lines.specs.Forms.{IsDone, IsFault, IsTrap}

-- the line, without its line feed, is a last line that says so
abbrev pub IsLastLine : List ℕ → LastLine → Type 0
IsLastLine text (Done actions) = IsDone text actions
IsLastLine text (Fault lane action call) = IsFault text lane action call
IsLastLine text (Trap lane action kind) = IsTrap text lane action kind

-- a line says at most one thing as a last line
abbrev pub LastLinesAreOne : Type 0
LastLinesAreOne = (text : List ℕ) (last other : LastLine) → IsLastLine text last → IsLastLine text other → last ≡ other
