-- The limits on the bytes of files.
use Rattle.std.specs.Prelude.{ℕ}

-- the most bytes of all sources together
abbrev pub most_bytes : ℕ
most_bytes = 1048576

-- the most bytes of a trace file
abbrev pub most_trace : ℕ
most_trace = 4194304
