-- What indices are read as.
use Rattle.std.proofs.Common.{◌≡◌, List, [], ◌∷◌, refl, sym, ap, ◌∙◌, Bool, true, false, map}
use Rattle.std.specs.Prelude.{reverse, Option, Some, None, if◌then◌else◌}
use Rattle.std.specs.List.{find}
use Rattle.pst_base.specs.declared.position.Place.{Place}
use Rattle.pst_model.specs.ConstraintTree.{SlotTree}
use Rattle.pst_ast.specs.Sorts.{same_place}
use Rattle.pst_terms.specs.Terms.{Reading}
use Rattle.pst_terms.specs.Readings as tree
use Rattle.pst_path_readings.specs.declared.setting.Turn.{Turn}
use Rattle.pst_path_readings.specs.declared.setting.Turn.TheVariants as turn
use Rattle.pst_path_readings.specs.Set.{view_placed, view_turns, turn_found, turn_is}

abbrev read : List (Place × Turn) → Place → Reading SlotTree
read turns place = tree.turn_reading (find (λ (t : Place × tree.Turn). same_place t.0 place) (map view_placed turns))

of_one : (at : Place) (t : Turn) → turn_is (Some t) ≡ tree.turn_reading (Some (view_placed (at, t)))
of_one at (turn.AtLevel level) = refl
of_one at (turn.AtNumber n) = refl

of_first : (b : Bool) (at : Place) (t : Turn) (found : Option (Place × Turn)) (more : Option (Place × tree.Turn)) → turn_is (Rattle.std.specs.Option.option_map (λ (x : Place × Turn). x.1) found) ≡ tree.turn_reading more
    → turn_is (Rattle.std.specs.Option.option_map (λ (x : Place × Turn). x.1) (if b then Some (at, t) else found)) ≡ tree.turn_reading (if b then Some (view_placed (at, t)) else more)
of_first true at t found more e = of_one at t
of_first false at t found more e = e

of_turns : (turns : List (Place × Turn)) (place : Place) → turn_is (turn_found place turns) ≡ read turns place
of_turns [] place = refl
of_turns ((at, t) ∷ more) place =
    of_first (same_place at place) at t (find (λ (x : Place × Turn). same_place x.0 place) more) (find (λ (x : Place × tree.Turn). same_place x.0 place) (map view_placed more)) (of_turns more place)

pub turn_of_index : (turns : List (Place × Turn)) (place : Place) → turn_is (turn_found place (reverse turns)) ≡ tree.turn_reading (find (λ (t : Place × tree.Turn). same_place t.0 place) (view_turns turns))
turn_of_index turns place = of_turns (reverse turns) place
