-- What single declarations break.
use Rattle.std.specs.Prelude.{ℕ, nat_lt, Bool, true, false, ◌&&◌, ◌||◌, List, [], ◌∷◌, Option, Some, None, if◌then◌else◌}
use Rattle.std.specs.Bool.{beq}
use Rattle.pst_base.specs.declared.position.Place.{Place}
use Rattle.pst_ast.specs.declared.shared.TypeName.{TypeName}
use Rattle.pst_ast.specs.declared.scope_declaration.Declaration.{Declaration}
use Rattle.pst_ast.specs.declared.scope_declaration.Sort.{Sort}
use Rattle.pst_ast.specs.declared.scope_declaration.Sort.TheVariants as sort
use Rattle.pst_ast.specs.declared.referent.Finding.{Finding}
use Rattle.pst_ast.specs.Lookups.{type_of}
use Rattle.pst_ast.specs.NameRules.{finding}
use Rattle.pst_ast.specs.Sorts.{is_resource}
use Rattle.pst_declaration_rules.specs.declared.counted.Kind.TheVariants as kind
use Rattle.pst_declaration_rules.specs.declared.member.Member.{Member}
use Rattle.pst_declaration_rules.specs.declared.shape.Shape.{Shape}
use Rattle.pst_declaration_rules.specs.declared.tally.Tally.{Tally}
use Rattle.pst_declaration_rules.specs.Counted.{over}
use Rattle.pst_declaration_rules.specs.Tallies.{with_own}

-- rule 15 at a type name, unless the type is a resource or not, as is wanted
abbrev pub unless_resource : Bool → TypeName → Option Declaration → Option Finding
unless_resource wanted name None = None
unless_resource wanted name (Some type) = if beq (is_resource type.sort) wanted then None else finding name.first.place 15

abbrev pub resource_by : Sort → Option Declaration → Option Finding
resource_by (sort.Reference of output) type = unless_resource false of type
resource_by (sort.Claim of) type = unless_resource true of type
resource_by _ type = None

-- a reference of a resource, or a claim of something else
abbrev pub resource_finding : List Declaration → Declaration → Option Finding
resource_finding ds d = resource_by d.sort (type_of ds d)

abbrev pub is_positive : Option ℕ → Bool
is_positive None = false
is_positive (Some n) = nat_lt 0 n

-- two activities, two bodies or one of each, or an activity and a reference or claim
abbrev pub activity_finding : Place → Tally → Option Finding
activity_finding place all = if all.twofold || (all.compound && (is_positive all.references || is_positive all.claims)) then finding place 16 else None

-- what a declaration breaks, given the counts of its base, its own members, its locals, and how many activities and bodies it has
unfoldable pub findings : List Declaration → Declaration → Tally → List Member → List Member → Option Shape → List (Option Finding)
findings ds d start own locals shape =
    over kind.Item (Some 0) own
    ∷ over kind.Parameter (Some 0) own
    ∷ over kind.Local (Some 0) locals
    ∷ over kind.Reference start.references own
    ∷ over kind.Claim start.claims own
    ∷ over kind.Field start.fields own
    ∷ resource_finding ds d
    ∷ activity_finding d.name.place (with_own start own shape)
    ∷ []
