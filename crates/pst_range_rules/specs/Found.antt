-- What single uses break, by the values that items have.
use Rattle.std.specs.Prelude.{ℕ, ℤ, List, Option}
use Rattle.pst_base.specs.declared.position.Place.{Place}
use Rattle.pst_ast.specs.SharedTree.{PlainTree, TypeTree, TypePlain, TypeNamed}
use Rattle.pst_ast.specs.ActivityTree.{ArmLabelTree}
use Rattle.pst_ast.specs.declared.scope_declaration.Declaration.{Declaration}
use Rattle.pst_ast.specs.declared.environment.Environment.{Environment}
use Rattle.pst_ast.specs.declared.referent.Finding.{Finding}
use Rattle.pst_evaluate.specs.Kept.{constant_by}
use Rattle.pst_enum_values.specs.Gathered.{EnumPlaces}
use Rattle.pst_range_rules.specs.Types.{enum_named, named_type, plain_type}
use Rattle.pst_range_rules.specs.Widths.{plain_by}
use Rattle.pst_range_rules.specs.Meetings.{arms_by}

-- rule 9 at a plain type
abbrev pub plain_found : List Declaration → List (List ℕ) → (Place → Option ℤ) → Environment → PlainTree → Option Finding
plain_found ds names known at plain = plain_by (constant_by ds names known at) plain

-- rules 10 and 13 at the arms of a match
abbrev pub arms_found : List Declaration → List (List ℕ) → (Place → Option ℤ) → Environment → List ArmLabelTree → Option Finding
arms_found ds names known at labels = arms_by (constant_by ds names known at) labels

-- rule 10 at the type of a field
abbrev pub type_found : List Declaration → List EnumPlaces → List (List ℕ) → (Place → Option ℤ) → Environment → TypeTree → Option Finding
type_found ds enums names known at (TypePlain plain domain) = plain_type (constant_by ds names known at) plain domain
type_found ds enums names known at (TypeNamed name domain) = named_type (constant_by ds names known at) known (enum_named ds enums at.component name) name domain
