-- How the sites of the sources are kept.
use Rattle.std.specs.Prelude.{◌≡◌, map}
use Rattle.pst_ast.specs.DeclarationView.{view_action, view_function, view_unit}
use Rattle.pst_type_rules.specs.Enums.{enums}
use Rattle.pst_type_rules.specs.Sites.{action_of, actions, fields, function_of, functions}
use Rattle.pst_site_lists.specs.Sited.{view_enum_site, view_field_site}
use Rattle.pst_sites.specs.declared.sites.Sites.TheInside.{Inside}

-- the lists are those of the sources, each with the places of its names
pub record AreSites (s : Inside) : Type 0 where
  pub actions_are : map (λ a. action_of (view_action a.now)) s.actions.items ≡ actions (map view_unit s.units.now)
  pub action_places_are : s.action_places ≡ map (λ a. a.now.name.place) s.actions.items
  pub functions_are : map (λ f. function_of (view_function f.now)) s.functions.items ≡ functions (map view_unit s.units.now)
  pub function_places_are : s.function_places ≡ map (λ f. f.now.name.place) s.functions.items
  pub fields_are : map view_field_site s.fields.items ≡ fields (map view_unit s.units.now)
  pub field_places_are : s.field_places ≡ map (λ f. f.name.place) s.fields.items
  pub enums_are : map view_enum_site s.enums.items ≡ enums (map view_unit s.units.now)
  pub enum_places_are : s.enum_places ≡ map (λ e. e.node.now.name.place) s.enums.items
