-- Locked names.
use Rattle.std.specs.Prelude.{List, map}
use Rattle.std.specs.List.{flat_map}
use Rattle.pst_base.specs.declared.position.Place.{Place}
use Rattle.pst_ast.specs.declared.leaf.Name.{Name}
use Rattle.pst_type_rules.specs.Sites.{DeclaredAction}
use Rattle.pst_terms.specs.Sources.{Sources}
use Rattle.pst_elab_rules.specs.Types.{locked, locked_in}

abbrev pub place_of_name : Name → Place
place_of_name n = n.place

-- the places of the names that an action claims by `lock`
abbrev pub locked_in_action : DeclaredAction → List Place
locked_in_action a = map place_of_name (flat_map locked_in a.parts)

abbrev pub locked_names : Sources → List Place
locked_names s = map place_of_name (locked s.units)
