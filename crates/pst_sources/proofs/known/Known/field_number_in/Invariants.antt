use Rattle.std.proofs.Common.{◌≡◌, ◌+◌, drop}
use Rattle.pst_terms.specs.Fields as field
use Rattle.pst_sources.specs.Shown.{sources_of}
use Rattle.pst_sources.proofs.known.Known.field_number_in.Given as goal

abbrev pub invariant-loop-other : goal.invariant-loop-other
invariant-loop-other l = l.number + field.field_number_in (sources_of l.self) (drop l.other-index l.fields) l.field ≡ field.field_number_in (sources_of l.self) l.fields l.field
