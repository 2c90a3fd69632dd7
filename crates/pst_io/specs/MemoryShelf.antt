-- How a shelf in memory that fails is kept.
use Rattle.pst_io.specs.Failing.{FailingShelf}
use Rattle.pst_io.specs.declared.memory_shelf.MemoryShelf.TheInside.{Inside}

-- the shelf without failures, and which calls fail
abbrev pub failing_shelf : Inside → FailingShelf
failing_shelf all = record { files = all.shelf.files; rest = all.shelf.rest; plan = all.plan }
