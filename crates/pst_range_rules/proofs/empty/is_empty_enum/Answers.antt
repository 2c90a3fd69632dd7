use Rattle.std.proofs.Common.{subst, ◌∙◌}
use Rattle.std.specs.Option.{option_map}
use Rattle.pst_enum_values.specs.Kept.{IsFound}
use Rattle.pst_range_rules.proofs.RowEmpty.{row_empty}
use Rattle.pst_range_rules.proofs.empty.is_empty_enum.Goals as goal

pub returns-in-Some : goal.returns-in-Some
returns-in-Some c = λ known e found.
    c.is_empty_row.ensures ∙ row_empty known e c.in-Some.values.now c.args.has_domain c.args.ranges.now (subst (λ o. IsFound known e (option_map (λ r. r.now) o)) c.in-Some.is found)
