-- The values of items are those of the trees of their enums.
use Rattle.std.proofs.Common.{◌≡◌, refl, ap, ◌∙◌, append_assoc}
use Rattle.std.specs.Prelude.{ℤ, pos, List, [], ◌∷◌, ◌++◌, map, Option, Some}
use Rattle.std.specs.List.{flat_map}
use Rattle.pst_base.specs.declared.position.Place.{Place}
use Rattle.pst_ast.specs.declared.leaf.Name.{Name}
use Rattle.pst_ast.specs.DeclarationTree.{EnumItemTree, MakeEnumItem}
use Rattle.pst_ast.specs.DeclarationView.{view_enum_item, view_next_enum_item}
use Rattle.pst_ast.specs.declared.declaration.NextEnumItem.{NextEnumItem}
use Rattle.pst_ast.specs.Declarations.{next_item}
use Rattle.pst_type_rules.specs.Enums.{DeclaredEnum, items_behind, enums}
use Rattle.pst_site_lists.specs.Sited.{view_enum_site}
use Rattle.pst_site_lists.specs.declared.site.EnumSite.{EnumSite}
use Rattle.pst_terms.specs.Sources.{Sources, item_values, next_value, all_item_values}
use Rattle.pst_sources.specs.Listed.{item_expr, value_with, values_from}

pub values_are : (s : Sources) (next : Option ℤ) (component : Option Place) (before : Option Name) (items : List EnumItemTree) → values_from s next items ≡ item_values s next (items_behind component before items)
values_are s next component before [] = refl
values_are s next component before (MakeEnumItem name value ∷ more) =
    ap (λ (xs : List (Place × Option ℤ)). (name.place, value_with s next (item_expr (MakeEnumItem name value))) ∷ xs) (values_are s (next_value (value_with s next (item_expr (MakeEnumItem name value)))) component (Some name) more)

of_each : (f : DeclaredEnum → List (Place × Option ℤ)) (sites : List EnumSite) → flat_map (λ e. f (view_enum_site e)) sites ≡ flat_map f (map view_enum_site sites)
of_each f [] = refl
of_each f (e ∷ more) = ap (λ (xs : List (Place × Option ℤ)). f (view_enum_site e) ++ xs) (of_each f more)

pub all_values : (s : Sources) (sites : List EnumSite) → map view_enum_site sites ≡ enums s.units → flat_map (λ e. item_values s (Some (pos 0)) (view_enum_site e).items) sites ≡ all_item_values s
all_values s sites are = of_each (λ e. item_values s (Some (pos 0)) e.items) sites ∙ ap (flat_map (λ e. item_values s (Some (pos 0)) e.items)) are

-- the first item of an enum, and those behind it
pub enum_is : (s : Sources) (site : EnumSite) (old mid : List (Place × Option ℤ)) (first : Option ℤ) (rest : List NextEnumItem)
    → mid ≡ old ++ (site.node.now.first.name.place, value_with s (Some (pos 0)) (item_expr (view_enum_item site.node.now.first))) ∷ []
    → first ≡ next_value (value_with s (Some (pos 0)) (item_expr (view_enum_item site.node.now.first))) → rest ≡ site.node.now.rest.items
    → mid ++ values_from s first (map next_item (map view_next_enum_item rest)) ≡ old ++ item_values s (Some (pos 0)) (view_enum_site site).items
enum_is s site old mid first rest mids firsts rests =
    let v = value_with s (Some (pos 0)) (item_expr (view_enum_item site.node.now.first)) in
    ap (λ (xs : List (Place × Option ℤ)). xs ++ values_from s first (map next_item (map view_next_enum_item rest))) mids
    ∙ append_assoc old ((site.node.now.first.name.place, v) ∷ []) (values_from s first (map next_item (map view_next_enum_item rest)))
    ∙ ap (λ (xs : List (Place × Option ℤ)). old ++ (site.node.now.first.name.place, v) ∷ xs)
    (ap (λ (f : Option ℤ). values_from s f (map next_item (map view_next_enum_item rest))) firsts
    ∙ ap (λ (r : List NextEnumItem). values_from s (next_value v) (map next_item (map view_next_enum_item r))) rests
    ∙ values_are s (next_value v) site.component (Some site.node.now.first.name) (map next_item (map view_next_enum_item site.node.now.rest.items)))
