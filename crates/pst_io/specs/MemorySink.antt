-- How a sink in memory that fails is kept.
use Rattle.pst_io.specs.Failing.{FailingSink}
use Rattle.pst_io.specs.declared.memory_sink.MemorySink.TheInside.{Inside}

-- the sink without failures, and which writes fail
abbrev pub failing_sink : Inside → FailingSink
failing_sink all = record { written = all.sink.written; spare = all.sink.spare; most = all.sink.most; plan = all.plan }
