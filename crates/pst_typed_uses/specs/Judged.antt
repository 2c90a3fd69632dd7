-- What has been found of the uses that a walk has shown.
use Rattle.std.specs.Prelude.{ℕ, ℤ, List, [], ◌∷◌, ◌++◌, map, Bool, true, false, Option, Some, None}
use Rattle.pst_base.specs.declared.position.Place.{Place}
use Rattle.pst_ast.specs.DeclarationView.{view_unit}
use Rattle.pst_ast.specs.declared.declaration.Unit.{Unit}
use Rattle.pst_ast.specs.declared.scope_declaration.Declaration.{Declaration}
use Rattle.pst_ast.specs.declared.referent.Finding.{Finding}
use Rattle.pst_ast.specs.Uses.{Use, Judges, HasPlain, HasType, Uniques, Branches, Arms, Performs, Ties, Passes, Assigns, Targets}
use Rattle.pst_type_rules.specs.declared.typed.ConstantValue.{ConstantValue}
use Rattle.pst_type_rules.specs.Places.{expr_place}
use Rattle.pst_type_rules.specs.TypeRules.{is_constant}
use Rattle.pst_name_rules.specs.Earlier.{earlier}
use Rattle.pst_evaluate.specs.Kept.{Kept, known_in, constant_by}
use Rattle.pst_enum_values.specs.Gathered.{EnumPlaces}
use Rattle.pst_range_rules.specs.Found.{plain_found, type_found, arms_found}
use Rattle.pst_use_rules.specs.Found.{judged_found, unique_found, branches_found, ties_found, targets_found, assigns_found, performs_found, passes_found}

-- the sources, what they declare, their enums, the texts of names, and the values of items; and then the least finding so far, and the constants so far
pub record Judged : Type 0 where
  pub units : List Unit
  pub ds : List Declaration
  pub enums : List EnumPlaces
  pub names : List (List ℕ)
  pub items : Kept
  pub least : Option Finding
  pub constants : List ConstantValue

abbrev pub with_found : Judged → Option Finding → Judged
with_found j f = record j { least = earlier j.least f }

-- a constant part that has a value
abbrev pub constant_if : Bool → Place → Option ℤ → List ConstantValue
constant_if true place (Some v) = record { at = place; value = v } ∷ []
constant_if _ place _ = []

abbrev pub with_constant : Judged → List ConstantValue → Judged
with_constant j more = record j { constants = j.constants ++ more }

-- a further use
abbrev pub judged : Judged → Use → Judged
judged j (Judges at role expr) =
    with_constant (with_found j (judged_found j.ds j.names at role expr (constant_by j.ds j.names (known_in j.items) at expr)))
    (constant_if (is_constant role) (expr_place expr) (constant_by j.ds j.names (known_in j.items) at expr))
judged j (HasPlain at plain) = with_found j (plain_found j.ds j.names (known_in j.items) at plain)
judged j (HasType at type) = with_found j (type_found j.ds j.enums j.names (known_in j.items) at type)
judged j (Uniques items) = with_found j (unique_found items)
judged j (Branches places) = with_found j (branches_found places)
judged j (Arms at labels) = with_found j (arms_found j.ds j.names (known_in j.items) at labels)
judged j (Performs at place traversal) = with_found j (performs_found (map view_unit j.units) j.ds j.names at place traversal)
judged j (Ties at first others) = with_found j (ties_found j.ds j.names at first others)
judged j (Passes component name arguments needed) = with_found j (passes_found (map view_unit j.units) j.ds component name arguments needed)
judged j (Assigns at name) = with_found j (assigns_found j.ds j.names at name)
judged j (Targets component pool instances action reference) = with_found j (targets_found j.ds component pool instances action reference)
judged j _ = j
