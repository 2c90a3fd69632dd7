use Rattle.std.proofs.Common.{◌≡◌, [], drop, map}
use Rattle.std.specs.Prelude.{string_bytes}
use Rattle.pst_trace_texts.specs.Named.{paths_from}
use Rattle.pst_trace_writer.proofs.paths.paths_of.Given as goal

abbrev pub invariant-loop-part : goal.invariant-loop-part
invariant-loop-part l =
    paths_from l.names (map string_bytes l.paths.items) (drop l.part-index l.model.instances.items) ≡ paths_from l.names [] l.model.instances.items
