-- How a sink in memory is kept.
use Rattle.std.specs.Prelude.{◌-◌, ◌≤◌, vec_len, vec_capacity}
use Rattle.pst_io.specs.Held.{HeldBytes}
use Rattle.pst_io.specs.declared.sure_sink.SureSink.TheInside.{Inside}

-- the bytes, the room behind them and the limit of a write
abbrev pub held_bytes : Inside → HeldBytes
held_bytes sink = record { written = sink.bytes.items; spare = vec_capacity sink.bytes - vec_len sink.bytes; most = sink.most }

-- a write takes something
abbrev pub TakesSome : Inside → Type 0
TakesSome sink = 1 ≤ sink.most
