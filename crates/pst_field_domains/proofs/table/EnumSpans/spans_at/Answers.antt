use Rattle.std.proofs.Common.{List, ap, subst, ◌∙◌}
use Rattle.std.specs.Prelude.{slice_get}
use Rattle.std.specs.Option.{option_and_then, option_map}
use Rattle.pst_expr.specs.declared.ranges.Span.{Span}
use Rattle.pst_places.specs.Numbers.{number_in}
use Rattle.pst_enum_values.specs.Kept.{EnumsKept, enum_in}
use Rattle.pst_evaluate.specs.Kept.{known_in}
use Rattle.pst_field_domains.specs.Known.{IsFound}
use Rattle.pst_field_domains.proofs.Enums.{found_by_number}
use Rattle.pst_field_domains.proofs.table.EnumSpans.spans_at.Goals as goal

pub returns : goal.returns
returns c =
    subst (λ (t : EnumsKept). IsFound (known_in t.items) (enum_in t.enums c.args.place) (option_map (λ r. r.now) c.row_at.result)) c.self.view_is
    (found_by_number c.self.inside.values.now c.args.place c.self.inside.enums.now c.self.inside.rows.items c.self.inside.places _ c.self.invariant.rows_are c.self.invariant.places_are
    (c.row_at.ensures ∙ ap (λ (rs : List (List Span)). option_and_then (slice_get rs) (number_in c.self.inside.places c.args.place)) c.as_slice.ensures.value))
