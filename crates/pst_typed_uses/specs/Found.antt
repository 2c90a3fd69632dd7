-- What all uses break, and the constants among them.
use Rattle.std.specs.Prelude.{ℕ, ℤ, List, [], map, Option, None}
use Rattle.pst_base.specs.declared.position.Place.{Place}
use Rattle.pst_ast.specs.DeclarationTree.{UnitTree}
use Rattle.pst_ast.specs.declared.referent.Finding.{Finding}
use Rattle.pst_ast.specs.Declarations.{declarations}
use Rattle.pst_ast.specs.Uses.{Use, Judges, HasPlain, HasType, Uniques, Branches, Arms, Performs, Ties, Passes, Assigns, Targets}
use Rattle.pst_type_rules.specs.Enums.{enums}
use Rattle.pst_type_rules.specs.declared.typed.ConstantValue.{ConstantValue}
use Rattle.pst_type_rules.specs.Places.{expr_place}
use Rattle.pst_type_rules.specs.TypeRules.{is_constant}
use Rattle.pst_evaluate.specs.Kept.{constant_by}
use Rattle.pst_enum_values.specs.Gathered.{enum_places}
use Rattle.pst_range_rules.specs.Found.{plain_found, type_found, arms_found}
use Rattle.pst_use_rules.specs.Found.{judged_found, unique_found, branches_found, ties_found, targets_found, assigns_found, performs_found, passes_found}
use Rattle.pst_typed_uses.specs.Judged.{constant_if}

-- what a use breaks first
abbrev pub use_found : List UnitTree → List (List ℕ) → (Place → Option ℤ) → Use → Option Finding
use_found units names known (Judges at role expr) = judged_found (declarations units) names at role expr (constant_by (declarations units) names known at expr)
use_found units names known (HasPlain at plain) = plain_found (declarations units) names known at plain
use_found units names known (HasType at type) = type_found (declarations units) (map enum_places (enums units)) names known at type
use_found units names known (Uniques items) = unique_found items
use_found units names known (Branches places) = branches_found places
use_found units names known (Arms at labels) = arms_found (declarations units) names known at labels
use_found units names known (Performs at place traversal) = performs_found units (declarations units) names at place traversal
use_found units names known (Ties at first others) = ties_found (declarations units) names at first others
use_found units names known (Passes component name arguments needed) = passes_found units (declarations units) component name arguments needed
use_found units names known (Assigns at name) = assigns_found (declarations units) names at name
use_found units names known (Targets component pool instances action reference) = targets_found (declarations units) component pool instances action reference
use_found units names known _ = None

-- the constant that a use is, where it has a value
abbrev pub constants_in : List UnitTree → List (List ℕ) → (Place → Option ℤ) → Use → List ConstantValue
constants_in units names known (Judges at role expr) = constant_if (is_constant role) (expr_place expr) (constant_by (declarations units) names known at expr)
constants_in units names known _ = []
