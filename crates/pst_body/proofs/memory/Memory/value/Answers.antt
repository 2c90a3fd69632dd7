use Rattle.std.proofs.Common.{◌≡◌, ◌<◌, ◌∙◌, ℕ, ap, subst, arith, List, ℤ, length, map}
use Rattle.std.proofs.lemmas.List.{length-map}
use Rattle.pst_expr.specs.Tree.{view}
use Rattle.pst_expr.specs.Value.{value, variable_value}
use Rattle.pst_model.specs.declared.constraint.Slot.{Slot}
use Rattle.pst_model.specs.ConstraintTree.{view_slot}
use Rattle.pst_legal.specs.Body.{slot_value}
use Rattle.pst_body.specs.Sites.{place_of}
use Rattle.pst_body.specs.Stores.{Store}
use Rattle.pst_body.proofs.Values.{value_same}
use Rattle.pst_body.proofs.memory.Memory.value.Goals as goal

pub returns-clause-value : goal.returns-clause-value
returns-clause-value c =
    let place = place_of c.args.site.now c.args.turns.now in
    let many = length-map c.args.constraint.now.slots.items view_slot in
    let written : (i : ℕ) → i < length c.args.constraint.now.slots.items → variable_value c.write_values.new.values i ≡ variable_value (map (slot_value place c.self.inside.locals.items) (map view_slot c.args.constraint.now.slots.items)) i =
    subst (λ (l : List ℤ). (i : ℕ) → i < length c.args.constraint.now.slots.items → variable_value c.write_values.new.values i ≡ variable_value (map (slot_value place l) (map view_slot c.args.constraint.now.slots.items)) i) c.as_slice.ensures.value
    (subst (λ (l : List Slot). (i : ℕ) → i < length l → variable_value c.write_values.new.values i ≡ variable_value (map (slot_value place c.as_slice.result.now) (map view_slot l)) i) c.as_slice-2.ensures.value c.write_values.ensures.written) in
    let same = value_same (view c.args.constraint.now.expr) (length (map view_slot c.args.constraint.now.slots.items)) c.write_values.new.values (map (slot_value place c.self.inside.locals.items) (map view_slot c.args.constraint.now.slots.items)) (λ i below. written i (omega (arith, below, many))) c.requires.below in
    c.eval.ensures ∙ same ∙ ap (λ (s : Store). value (view c.args.constraint.now.expr) (map (slot_value place s.locals) (map view_slot c.args.constraint.now.slots.items))) c.self.view_is
