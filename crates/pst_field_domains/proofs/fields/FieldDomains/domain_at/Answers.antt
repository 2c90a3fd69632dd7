use Rattle.std.proofs.Common.{List, ap, sym, ◌∙◌}
use Rattle.std.specs.Prelude.{slice_get}
use Rattle.std.specs.Option.{option_and_then}
use Rattle.pst_expr.specs.declared.ranges.Span.{Span}
use Rattle.pst_places.specs.Numbers.{number_in}
use Rattle.pst_field_domains.proofs.Listed.{mapped, place_found}
use Rattle.pst_field_domains.proofs.fields.FieldDomains.domain_at.Goals as goal

pub returns : goal.returns
returns c = λ fields are.
    mapped (λ d. d.now) c.domain_by.result
    ∙ place_found _ c.self.inside.places c.self.inside.domains.items c.args.place _ fields (sym c.self.view_is)
    (c.domain_by.ensures ∙ ap (λ (ds : List (List Span)). option_and_then (slice_get ds) (number_in c.self.inside.places c.args.place)) c.as_slice.ensures.value) are
