-- What a model's near constraints are.
use Rattle.std.proofs.Common.{◌≡◌, ℕ, List, [], ◌∷◌, false, ◌||◌, Contains, Some, refl, ap, ◌∙◌}
use Rattle.std.specs.List.{list_any}
use Rattle.std.proofs.lemmas.Bool.{or_parts}
use Rattle.pst_model.specs.ConstraintTree.{ConstraintTree}
use Rattle.pst_model.specs.ActivityTree.{Traverse}
use Rattle.pst_model.specs.ModelTree.{ModelTree, ActionTree}
use Rattle.pst_scen.specs.declared.tree.Node.{Node}
use Rattle.pst_legal.specs.Types.{type_of}
use Rattle.pst_legal.specs.Statements.{StandsFor}
use Rattle.pst_built.proofs.Members.{in_get, none_any}
use Rattle.pst_slots.proofs.Listed.{in_contains}
use Rattle.pst_refusals.specs.declared.inlines.Sought.TheVariants as sought
use Rattle.pst_refusals.specs.Inlines.{is_far_slot, is_far, type_has}
use Rattle.pst_refusals.proofs.Without.{none_stands}
use Rattle.pst_new_refusals.specs.Far.{is_far_type, has_far}

pub near_type : (m : ModelTree) → has_far m ≡ false → (action : ℕ) (type : ActionTree) → type_of m action ≡ Some type → list_any is_far type.constraints ≡ false
near_type m near action type is = (or_parts (list_any is_far type.constraints) (type_has sought.Far type) (none_any is_far_type m.actions type near (in_get m.actions action type is))).0

none_has : (types : List ActionTree) → list_any is_far_type types ≡ false → list_any (type_has sought.Far) types ≡ false
none_has [] near = refl
none_has (type ∷ types) near =
    let parts = or_parts (is_far_type type) (list_any is_far_type types) near in
    ap (λ b. b || list_any (type_has sought.Far) types) (or_parts (list_any is_far type.constraints) (type_has sought.Far type) parts.0).1 ∙ none_has types parts.1

-- nor does an inline constraint look behind a handle
pub near_inline : (m : ModelTree) → has_far m ≡ false → (nodes : List Node) (top n action : ℕ) (handle : _) (inline : List ConstraintTree) (indices : List ℕ) (k : ConstraintTree)
    → StandsFor m nodes top n (Traverse action handle inline) indices → Contains inline k → list_any is_far_slot k.slots ≡ false
near_inline m near nodes top n action handle inline indices k stands has =
    none_any is_far inline k (none_stands m sought.Far (none_has m.actions near) nodes top stands) (in_contains inline k has)
