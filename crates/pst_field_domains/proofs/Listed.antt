-- The domains of the fields of the sources.
use Rattle.std.proofs.Common.{◌≡◌, ℕ, map, Bool, true, false, List, [], ◌∷◌, Option, refl, sym, ap, subst, ◌∙◌}
use Rattle.std.specs.Prelude.{Some, None, slice_get, if◌then◌else◌}
use Rattle.std.specs.Option.{option_map, option_map_or, option_and_then}
use Rattle.std.specs.List.{AllZip}
use Rattle.pst_base.specs.declared.position.Place.{Place}
use Rattle.pst_ast.specs.DeclarationTree.{UnitTree}
use Rattle.pst_expr.specs.declared.ranges.Span.{Span}
use Rattle.pst_ast.specs.declared.scope_declaration.Declaration.{Declaration}
use Rattle.pst_ast.specs.Declarations.{declarations}
use Rattle.pst_type_rules.specs.Domains.{IsDomainOf}
use Rattle.pst_type_rules.specs.Enums.{DeclaredEnum, enums}
use Rattle.pst_evaluate.specs.Kept as items
use Rattle.pst_evaluate.specs.Laws.{ConstantsAreFound}
use Rattle.pst_evaluate.specs.Settled.{AreItemValues}
use Rattle.pst_enum_values.specs.Gathered.{EnumPlaces, enum_places}
use Rattle.pst_enum_values.specs.Kept.{EnumsKept, places_of_site}
use Rattle.pst_places.specs.Numbers.{number_from, number_in}
use Rattle.pst_ast.specs.Sorts.{same_place}
use Rattle.pst_site_lists.specs.declared.site.EnumSite.{EnumSite}
use Rattle.pst_site_lists.specs.declared.site.FieldSite.{FieldSite}
use Rattle.pst_site_lists.specs.Sited.{view_enum_site, view_field_site}
use Rattle.pst_type_rules.specs.Sites.{DeclaredField, fields}
use Rattle.pst_elab_rules.specs.Spans.{AreDomains, NoDomain, MoreDomains, domain_at}
use Rattle.pst_field_domains.specs.Kept.{HasDomains, KeptDomains, IsDomainOf as By}
use Rattle.pst_field_domains.proofs.Enums.{behind, one_further}
use Rattle.pst_field_domains.proofs.Typed.{is_joined, typed}

enum_list : (sites : List EnumSite) → map places_of_site sites ≡ map enum_places (map view_enum_site sites)
enum_list [] = refl
enum_list (e ∷ more) = ap (λ (l : List EnumPlaces). places_of_site e ∷ l) (enum_list more)

place_list : (sites : List FieldSite) → map (λ (f : FieldSite). f.name.place) sites ≡ map (λ (f : DeclaredField). f.name.place) (map view_field_site sites)
place_list [] = refl
place_list (f ∷ more) = ap (λ (l : List Place). f.name.place ∷ l) (place_list more)

module _ (found : ConstantsAreFound) (units : List UnitTree) (names : List (List ℕ)) (k : items.Kept) (items_are : AreItemValues units names (items.known_in k)) where
  abbrev table : EnumsKept
  table = record { enums = map enum_places (enums units); items = k }

  domain_is : (f : FieldSite) (spans : List Span) → By (declarations units) names k table f spans → IsDomainOf units names (view_field_site f).at (view_field_site f).type spans
  domain_is f spans by =
      let field = view_field_site f in
      let joined = is_joined found units names field.at (items.known_in k) items_are field.type spans by.1 in
      record { domain = by.0; apart = joined.apart; values = typed found units names field.at (items.known_in k) items_are field.type spans by.1 }

  domains_are : (sites : List FieldSite) (domains : List (List Span)) → AllZip (By (declarations units) names k table) sites domains → AreDomains units names (map view_field_site sites) domains
  domains_are [] [] zip = NoDomain
  domains_are [] (d ∷ domains) zip = absurd zip
  domains_are (f ∷ sites) [] zip = absurd zip
  domains_are (f ∷ sites) (d ∷ domains) zip = MoreDomains (view_field_site f) (map view_field_site sites) d domains (domain_is f d zip.0) (domains_are sites domains zip.1)

  pub has_domains : (ds : List Declaration) (ns : List (List ℕ)) (e : items.Kept) (t : EnumsKept) (sites : List EnumSite) (listed : List FieldSite) (places : List Place) (domains : List (List Span))
      → ds ≡ declarations units → ns ≡ names → e ≡ k → t ≡ record { enums = map places_of_site sites; items = k } → map view_enum_site sites ≡ enums units → map view_field_site listed ≡ fields units
      → places ≡ map (λ (f : FieldSite). f.name.place) listed → AllZip (By ds ns e t) listed domains → HasDomains units names (record { places = places; domains = domains })
  has_domains ds ns e t sites listed places domains declared named kept tabled all are places_are zip =
      let same = enum_list sites ∙ ap (map enum_places) all in
      let one = subst (λ (x : List Declaration). AllZip (By x ns e t) listed domains) declared zip in
      let two = subst (λ (x : List (List ℕ)). AllZip (By (declarations units) x e t) listed domains) named one in
      let three = subst (λ (x : items.Kept). AllZip (By (declarations units) names x t) listed domains) kept two in
      let four = subst (λ (x : EnumsKept). AllZip (By (declarations units) names k x) listed domains) tabled three in
      let by = subst (λ (l : List EnumPlaces). AllZip (By (declarations units) names k (record { enums = l; items = k })) listed domains) same four in
      record {
        places = places_are ∙ place_list listed ∙ ap (map (λ (f : DeclaredField). f.name.place)) are;
        domains = subst (λ (l : List DeclaredField). AreDomains units names l domains) are (domains_are listed domains by);
      }

-- ---- the domain at a place

abbrev pub or_none : Option (List Span) → List Span
or_none o = option_map_or (λ d. d) o []

at_if : (f : DeclaredField) (more : List DeclaredField) (d : List Span) (domains : List (List Span)) (p : Place) (b : Bool)
    → or_none (option_and_then (slice_get domains) (number_from 0 (map (λ (f : DeclaredField). f.name.place) more) p)) ≡ domain_at more domains p
    → or_none (option_and_then (slice_get (d ∷ domains)) (if b then Some 0 else number_from 1 (map (λ (f : DeclaredField). f.name.place) more) p)) ≡ (if b then d else domain_at more domains p)
at_if f more d domains p true rest = refl
at_if f more d domains p false rest =
    let places = map (λ (f : DeclaredField). f.name.place) more in
    ap (λ (o : Option ℕ). or_none (option_and_then (slice_get (d ∷ domains)) o)) (one_further 0 places p)
    ∙ ap or_none (behind d domains (number_from 0 places p)) ∙ rest

none_there : (o : Option ℕ) → or_none (option_and_then (slice_get []) o) ≡ []
none_there None = refl
none_there (Some n) = refl

by_number : (listed : List DeclaredField) (domains : List (List Span)) (p : Place)
    → or_none (option_and_then (slice_get domains) (number_from 0 (map (λ (f : DeclaredField). f.name.place) listed) p)) ≡ domain_at listed domains p
by_number [] domains p = refl
by_number (f ∷ more) [] p = none_there (number_from 0 (map (λ (f : DeclaredField). f.name.place) (f ∷ more)) p)
by_number (f ∷ more) (d ∷ domains) p = at_if f more d domains p (same_place f.name.place p) (by_number more domains p)

domain_found : (listed : List DeclaredField) (domains : List (List Span)) (places : List Place) (p : Place) (number : Option ℕ) → places ≡ map (λ (f : DeclaredField). f.name.place) listed → number ≡ number_in places p
    → or_none (option_and_then (slice_get domains) number) ≡ domain_at listed domains p
unfolding number_in
domain_found listed domains places p number are is =
    ap (λ (o : Option ℕ). or_none (option_and_then (slice_get domains) o)) (is ∙ ap (λ (ps : List Place). number_from 0 ps p) are) ∙ by_number listed domains p

pub mapped : {A : Type 0} (f : A → List Span) (o : Option A) → option_map_or f o [] ≡ or_none (option_map f o)
mapped f None = refl
mapped f (Some x) = refl

pub place_found : (k : KeptDomains) (places : List Place) (domains : List (List Span)) (p : Place) (found : Option (List Span)) (listed : List DeclaredField) → k ≡ record { places = places; domains = domains }
    → found ≡ option_and_then (slice_get domains) (number_in places p) → k.places ≡ map (λ (f : DeclaredField). f.name.place) listed → or_none found ≡ domain_at listed k.domains p
place_found k places domains p found listed same is are =
    ap or_none is
    ∙ domain_found listed domains places p (number_in places p) (ap (λ (x : KeptDomains). x.places) (sym same) ∙ are) refl
    ∙ ap (λ (x : KeptDomains). domain_at listed x.domains p) (sym same)
