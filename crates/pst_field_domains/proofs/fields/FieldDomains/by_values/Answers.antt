use Rattle.std.proofs.Common.{◌≡◌, List, map, refl, ap, subst, ◌∙◌}
use Rattle.std.specs.List.{AllZip}
use Rattle.pst_ast.specs.DeclarationView.{view_unit}
use Rattle.pst_ast.specs.declared.declaration.Unit.{Unit}
use Rattle.pst_enum_values.specs.Kept.{EnumsKept}
use Rattle.pst_site_lists.specs.declared.site.FieldSite.{FieldSite}
use Rattle.pst_site_lists.specs.Sited.{view_field_site}
use Rattle.pst_type_rules.specs.Sites.{fields}
use Rattle.pst_field_domains.specs.Kept.{IsDomainOf}
use Rattle.pst_field_domains.proofs.Listed.{has_domains}
use Rattle.pst_field_domains.proofs.fields.FieldDomains.by_values.Goals as goal

pub returns : goal.returns
returns c =
    has_domains c.constants_are_found.ensures (map view_unit c.args.sites.now) c.args.names.now c.args.values.now c.requires.values c.args.index.now c.args.names.now c.in_ok-enums.enums.items c.in_ok-table.table c.enums-listed.result.now c.in_ok-found.found.items
    c.in_ok-places.places c.in_ok-domains.domains.items c.requires.declared refl (ap (λ (t : EnumsKept). t.items) c.in_ok-enums.ensures) c.in_ok-table.ensures c.enums-listed.ensures
    (subst (λ (us : List Unit). map view_field_site c.in_ok-found.found.items ≡ fields (map view_unit us)) c.sources.ensures c.in_ok-found.ensures)
    (c.in_ok-places.ensures ∙ ap (map (λ (f : FieldSite). f.name.place)) c.as_slice-fields.ensures.value)
    (subst (λ (l : List FieldSite). AllZip (IsDomainOf c.args.index.now c.args.names.now c.in_ok-enums.enums.items c.in_ok-table.table) l c.in_ok-domains.domains.items) c.as_slice-fields.ensures.value c.in_ok-domains.ensures)
