use Rattle.std.proofs.Common.{take}
use Rattle.std.specs.List.{AllZip}
use Rattle.pst_field_domains.specs.Kept.{IsRowOf}
use Rattle.pst_field_domains.proofs.table.rows_of.Given as goal

abbrev pub invariant-loop-site : goal.invariant-loop-site
invariant-loop-site l = AllZip (IsRowOf l.values) (take l.site-index l.enums) l.rows.items
