-- The least breach of all rules of types.
use Rattle.std.proofs.Common.{◌≡◌, ◌⊎◌, inl, inr, ⊎_elim, ℕ, List, [], ◌∷◌, Option, refl, sym, ap, subst, ◌∙◌}
use Rattle.std.specs.Prelude.{Some, None, map}
use Rattle.pst_base.specs.declared.position.Place.{Place}
use Rattle.pst_base.specs.Laws.{BeforeGoesOn}
use Rattle.pst_ast.specs.DeclarationTree.{UnitTree}
use Rattle.pst_ast.specs.Breaches.{IsLeast, IsNone}
use Rattle.pst_ast.specs.declared.referent.Finding.{Finding}
use Rattle.pst_type_rules.specs.Enums.{DeclaredEnum}
use Rattle.pst_type_rules.specs.TypeRules.{TypeBreach, OfUse, OfEnum, OfDeclaration, Unsteady, BoundTwice}
use Rattle.pst_name_rules.specs.Earlier.{earlier}
use Rattle.pst_name_rules.specs.Leasts.{IsLeastOf}
use Rattle.pst_name_rules.proofs.Leasts.{told, least_of_both}
use Rattle.pst_site_lists.specs.Sited.{view_enum_site}
use Rattle.pst_site_lists.specs.declared.site.EnumSite.{EnumSite}
use Rattle.pst_enum_values.specs.Gathered.{EnumPlaces, enum_places}
use Rattle.pst_enum_values.specs.Kept.{places_of_site}
use Rattle.pst_typed_uses.specs.Breaches.{IsUseBreach}
use Rattle.pst_types.specs.Checked.{IsBreach, IsOtherBreach}

-- ---- enums

pub enums_of_sites : (sites : List EnumSite) (enums : List DeclaredEnum) → map view_enum_site sites ≡ enums → map places_of_site sites ≡ map enum_places enums
enums_of_sites sites enums is = each sites ∙ ap (map enum_places) is
  where
    each : (sites : List EnumSite) → map places_of_site sites ≡ map enum_places (map view_enum_site sites)
    each [] = refl
    each (s ∷ more) = ap (λ (ps : List EnumPlaces). places_of_site s ∷ ps) (each more)

-- ---- all breaches

module _ (units : List UnitTree) (names : List (List ℕ)) where
  abbrev at : Place → ℕ → Finding
  at place rule = record { place = place; rule = rule }

  moved : (f : Finding) (place : Place) (rule : ℕ) → f.place ≡ place → f.rule ≡ rule → TypeBreach units names place rule → IsBreach units names f
  moved f place rule p r breach = subst (λ (q : Place). TypeBreach units names q f.rule) (sym p) (subst (λ (n : ℕ). TypeBreach units names place n) (sym r) breach)

  other_breaks : (f : Finding) → IsOtherBreach units names f → IsBreach units names f
  other_breaks f (inl (inl (e, among, breaks))) = OfEnum e f.place f.rule among breaks
  other_breaks f (inl (inr (d, among, breaks))) = OfDeclaration d f.place f.rule among breaks
  other_breaks f (inr (inl u)) = moved f u.mention.name.place 18 u.place u.rule (Unsteady u.used u.mention u.handle u.action u.among u.mentioned u.named u.is u.judged u.unsteady)
  other_breaks f (inr (inr t)) = moved f t.later.other.handle.place 20 t.place t.rule (BoundTwice t.front t.more t.earlier t.later t.split t.among t.twice)

  found_breaks : (f : Finding) → IsUseBreach units names f ⊎ IsOtherBreach units names f → IsBreach units names f
  found_breaks f (inl (u, among, breaks)) = OfUse u f.place f.rule among breaks
  found_breaks f (inr other) = other_breaks f other

  breaks_found : (place : Place) (rule : ℕ) → TypeBreach units names place rule → IsUseBreach units names (at place rule) ⊎ IsOtherBreach units names (at place rule)
  breaks_found place rule (OfUse u p r among breaks) = inl (u, among, breaks)
  breaks_found place rule (OfEnum e p r among breaks) = inr (inl (inl (e, among, breaks)))
  breaks_found place rule (OfDeclaration d p r among breaks) = inr (inl (inr (d, among, breaks)))
  breaks_found place rule (Unsteady u m handle action among mentioned named is judged never) =
      inr (inr (inl (record { used = u; mention = m; handle = handle; action = action; among = among; mentioned = mentioned; named = named; is = is; judged = judged; unsteady = never; place = refl; rule = refl })))
  breaks_found place rule (BoundTwice front more first later split among twice) =
      inr (inr (inr (record { front = front; more = more; earlier = first; later = later; split = split; among = among; twice = twice; place = refl; rule = refl })))

  pub all_least : BeforeGoesOn → (used others : Option Finding) → IsLeastOf (IsUseBreach units names) used → IsLeastOf (IsOtherBreach units names) others → IsLeastOf (IsBreach units names) (earlier used others)
  all_least on used others a b =
      told on (λ f. IsUseBreach units names f ⊎ IsOtherBreach units names f) (IsBreach units names) (earlier used others) found_breaks (λ f breach. breaks_found f.place f.rule breach)
      (least_of_both on (IsUseBreach units names) (IsOtherBreach units names) used others a b)

  pub is_least : (least : Option Finding) (f : Finding) → least ≡ Some f → IsLeastOf (IsBreach units names) least → IsLeast (TypeBreach units names) f.place f.rule
  is_least least f is found = let l = subst (IsLeastOf (IsBreach units names)) is found in record { is = l.0; least = λ p r breach. l.1 (at p r) breach }

  pub is_none : (least : Option Finding) → least ≡ None → IsLeastOf (IsBreach units names) least → IsNone (TypeBreach units names)
  is_none least is found = λ p r breach. subst (IsLeastOf (IsBreach units names)) is found (at p r) breach
