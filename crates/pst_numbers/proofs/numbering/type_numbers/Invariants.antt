use Rattle.std.proofs.Common.{◌≡◌, take}
use Rattle.std.specs.Prelude.{position}
use Rattle.std.specs.HashMap.{get}
use Rattle.pst_base.specs.declared.position.Place.{Place}
use Rattle.pst_ast.specs.Sorts.{same_place}
use Rattle.pst_numbers.specs.NumberKeys.{place_key, same_place_key}
use Rattle.pst_numbers.proofs.numbering.type_numbers.Given as goal

abbrev pub invariant-loop-entry : goal.invariant-loop-entry
invariant-loop-entry l = record {
  counted : l.number ≡ l.entry-index;
  found : (place : Place) → get same_place_key l.found (place_key place) ≡ position (λ e. same_place e.place place) (take l.entry-index l.entries);
}
