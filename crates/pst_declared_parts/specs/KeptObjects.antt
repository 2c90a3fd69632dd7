-- How the object types of the sources are kept.
use Rattle.std.specs.Prelude.{◌≡◌, map}
use Rattle.std.specs.List.{flat_map}
use Rattle.pst_ast.specs.DeclarationView.{view_object, view_unit}
use Rattle.pst_type_rules.specs.Sites.{items_of}
use Rattle.pst_elab_rules.specs.Types.{objects_in_item, object_of_tree}
use Rattle.pst_declared_parts.specs.declared.objects.ObjectSites.TheInside.{Inside}

-- the list has those of the sources, and the places are those of their names
pub record AreObjects (s : Inside) : Type 0 where
  pub objects_are : map (λ a. object_of_tree (view_object a.now)) s.objects.items ≡ flat_map objects_in_item (flat_map items_of (map view_unit s.units.now))
  pub places_are : s.places ≡ map (λ a. a.now.name.place) s.objects.items
