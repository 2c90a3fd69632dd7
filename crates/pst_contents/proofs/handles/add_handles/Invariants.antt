use Rattle.std.proofs.Common.{◌≡◌, ◌++◌, drop, map}
use Rattle.pst_contents.specs.Found.{handle_type}
use Rattle.pst_sources.specs.Shown.{sources_of}
use Rattle.pst_terms.specs.Sources.{declared_in}
use Rattle.pst_contents.proofs.handles.add_handles.Given as goal

abbrev pub invariant-loop-handle : goal.invariant-loop-handle
invariant-loop-handle l =
    l.found.items ++ map (handle_type (declared_in (sources_of l.numbered))) (drop l.handle-index l.handles)
    ≡ l.initial.found.items ++ map (handle_type (declared_in (sources_of l.numbered))) l.handles
