use Rattle.std.proofs.Common.{◌≡◌, ◌++◌, drop}
use Rattle.pst_sources.specs.Numbered as kept
use Rattle.pst_sources.specs.Shown.{sources_of}
use Rattle.pst_sources.proofs.fields.numbered.Given as goal

abbrev pub invariant-loop-field : goal.invariant-loop-field
invariant-loop-field l = l.found.items ++ kept.numbered (sources_of l.known) l.number (drop l.field-index l.fields) ≡ kept.numbered (sources_of l.known) 0 l.fields
