-- How many activities and bodies actions have of their own.
use Rattle.std.specs.Prelude.{nat_lt, Bool, true, false, ◌||◌, Option, Some, None, length, if◌then◌else◌}
use Rattle.pst_type_rules.specs.Members.{activities_of, bodies_of}
use Rattle.pst_type_rules.specs.Sites.{DeclaredAction}
use Rattle.pst_declaration_rules.specs.declared.shape.Shape.{Shape}

abbrev pub shape_of : DeclaredAction → Shape
shape_of a = record { activities = length (activities_of a); bodies = length (bodies_of a) }

-- two activities, two bodies, or one of each of its own, or where it has neither an activity nor a body, what its base has
abbrev pub is_twofold : Option Shape → Bool → Bool
is_twofold None inherited = false
is_twofold (Some s) inherited = if nat_lt 0 s.activities then nat_lt 1 s.activities || nat_lt 0 s.bodies else (if nat_lt 0 s.bodies then nat_lt 1 s.bodies else inherited)

-- an activity of its own, or where it has neither an activity nor a body, that of its base
abbrev pub is_compound : Option Shape → Bool → Bool
is_compound None inherited = false
is_compound (Some s) inherited = if nat_lt 0 s.activities then true else (if nat_lt 0 s.bodies then false else inherited)
