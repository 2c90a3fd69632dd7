-- How the spans of enums and the domains of fields are kept.
use Rattle.std.specs.Prelude.{◌≡◌, ℕ, List, map}
use Rattle.pst_base.specs.declared.position.Place.{Place}
use Rattle.pst_ast.specs.DeclarationTree.{UnitTree}
use Rattle.pst_expr.specs.declared.ranges.Span.{Span}
use Rattle.pst_expr.specs.Spans.{IsDomain}
use Rattle.pst_ast.specs.declared.scope_declaration.Declaration.{Declaration}
use Rattle.pst_evaluate.specs.Kept as items
use Rattle.pst_enum_values.specs.Gathered.{EnumPlaces}
use Rattle.pst_enum_values.specs.Kept.{EnumsKept, places_of_site}
use Rattle.pst_range_rules.specs.declared.facts.RangeFacts.{RangeFacts}
use Rattle.pst_site_lists.specs.declared.site.EnumSite.{EnumSite}
use Rattle.pst_site_lists.specs.declared.site.FieldSite.{FieldSite}
use Rattle.pst_site_lists.specs.Sited.{view_field_site}
use Rattle.pst_type_rules.specs.Sites.{fields}
use Rattle.pst_elab_rules.specs.Spans.{AreDomains}
use Rattle.pst_field_domains.specs.Known.{AreEnumSpans, AreTyped}

-- ---- enums

abbrev pub IsRowOf : items.Kept → EnumSite → List Span → Type 0
IsRowOf k e row = AreEnumSpans (items.known_in k) (places_of_site e).items row

-- ---- fields

-- the places of the names of fields, and their domains
pub record KeptDomains : Type 0 where
  pub places : List Place
  pub domains : List (List Span)

-- the domain of a field, where items have these values for constants, and those of a table for enums
abbrev pub IsDomainOf : List Declaration → List (List ℕ) → items.Kept → EnumsKept → FieldSite → List Span → Type 0
IsDomainOf ds names k t f spans =
    let field = view_field_site f in
    IsDomain spans × AreTyped (items.constant_by ds names (items.known_in k) field.at) (items.known_in t.items) ds t.enums field.at field.type spans

abbrev pub IsDomainBy : RangeFacts → EnumsKept → FieldSite → List Span → Type 0
IsDomainBy f t field spans = IsDomainOf f.index.now f.names.now f.enums.now.items t field spans

-- they are the domains of the fields of the sources
pub record HasDomains (units : List UnitTree) (names : List (List ℕ)) (k : KeptDomains) : Type 0 where
  pub places : k.places ≡ map (λ f. f.name.place) (fields units)
  pub domains : AreDomains units names (fields units) k.domains
