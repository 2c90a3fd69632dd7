use Rattle.std.proofs.Common.{take}
use Rattle.std.specs.List.{AllZip}
use Rattle.pst_field_domains.specs.Kept.{IsDomainBy}
use Rattle.pst_field_domains.proofs.fields.domains_of.Given as goal

abbrev pub invariant-loop-field : goal.invariant-loop-field
invariant-loop-field l = AllZip (IsDomainBy l.facts l.table) (take l.field-index l.fields) l.domains.items
