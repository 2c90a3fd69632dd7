use Rattle.std.proofs.Common.{◌≡◌, ◌<◌, ℕ, length, map}
use Rattle.pst_expr.specs.Value.{variable_value}
use Rattle.pst_model.specs.ConstraintTree.{view_slot}
use Rattle.pst_legal.specs.Body.{slot_value}
use Rattle.pst_body.specs.Sites.{place_of}
use Rattle.pst_body.proofs.memory.write_values.Given as goal

abbrev pub invariant-loop-i : goal.invariant-loop-i
invariant-loop-i l = record {
  room : length l.values ≡ length l.initial.values;
  written : (j : ℕ) → j < l.i → variable_value l.values j ≡ variable_value (map (slot_value (place_of l.site l.turns) l.locals) (map view_slot l.slots)) j;
}
