-- Where expressions stand.
use Rattle.std.specs.Prelude.{pos, List, map, reverse, Option, Some, None}
use Rattle.pst_model.specs.ConstraintTree.{SlotTree, Index}
use Rattle.pst_terms.specs.Terms.{Reading, ANumber, AThing}
use Rattle.std.specs.List.{find}
use Rattle.std.specs.Option.{option_map}
use Rattle.pst_base.specs.declared.position.Place.{Place}
use Rattle.pst_ast.specs.Sorts.{same_place}
use Rattle.pst_terms.specs.Readings as tree
use Rattle.pst_path_readings.specs.declared.setting.Turn.{Turn}
use Rattle.pst_path_readings.specs.declared.setting.Turn.TheVariants as turn
use Rattle.pst_path_readings.specs.declared.setting.Setting.{Setting}

abbrev pub view_turn : Turn → tree.Turn
view_turn (turn.AtLevel level) = tree.AtLevel level
view_turn (turn.AtNumber n) = tree.AtNumber n

abbrev pub view_placed : Place × Turn → Place × tree.Turn
view_placed x = (x.0, view_turn x.1)

-- the innermost first
abbrev pub view_turns : List (Place × Turn) → List (Place × tree.Turn)
view_turns turns = map view_placed (reverse turns)

abbrev pub view_setting : Setting → tree.Setting
view_setting s = record { at = s.at; turns = view_turns s.turns.items; locals = s.locals.now }

-- what the index at a place stands for
abbrev pub turn_found : Place → List (Place × Turn) → Option Turn
turn_found place turns = option_map (λ (x : Place × Turn). x.1) (find (λ (x : Place × Turn). same_place x.0 place) turns)

-- what an index is read as
abbrev pub turn_is : Option Turn → Reading SlotTree
turn_is None = tree.nothing
turn_is (Some (turn.AtLevel level)) = AThing (Index level)
turn_is (Some (turn.AtNumber n)) = ANumber (pos n)
