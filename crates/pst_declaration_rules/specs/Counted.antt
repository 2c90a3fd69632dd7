-- Counting what types may have only so many of.
use Rattle.std.specs.Prelude.{ℕ, ◌+◌, nat_lt, nat_le, Bool, false, ◌&&◌, List, [], ◌∷◌, Option, Some, None, if◌then◌else◌}
use Rattle.pst_model.specs.Limits.{most_claims, most_fields, most_locals, most_parameters, most_references}
use Rattle.pst_ast.specs.declared.scope_declaration.Sort.{Sort}
use Rattle.pst_ast.specs.declared.referent.Finding.{Finding}
use Rattle.pst_ast.specs.NameRules.{finding}
use Rattle.pst_ast.specs.Sorts.{is_claim, is_field, is_item, is_reference}
use Rattle.pst_type_rules.specs.Limits.{is_local, is_parameter, most_items}
use Rattle.pst_declaration_rules.specs.declared.counted.Kind.{Kind}
use Rattle.pst_declaration_rules.specs.declared.counted.Kind.TheVariants as kind
use Rattle.pst_declaration_rules.specs.declared.member.Member.{Member}

-- how many there may be
abbrev pub most_of : Kind → ℕ
most_of kind.Item = most_items
most_of kind.Parameter = most_parameters
most_of kind.Local = most_locals
most_of kind.Reference = most_references
most_of kind.Claim = most_claims
most_of kind.Field = most_fields

-- whether something of a sort is one of them
abbrev pub is_of : Kind → Sort → Bool
is_of kind.Item s = is_item s
is_of kind.Parameter s = is_parameter s
is_of kind.Local s = is_local s
is_of kind.Reference s = is_reference s
is_of kind.Claim s = is_claim s
is_of kind.Field s = is_field s

abbrev pub one_or_none : Bool → Option ℕ
one_or_none one = if one then Some 1 else Some 0

-- fields by how many are added, and all else by one
abbrev pub weight_by : Kind → Option ℕ → Option ℕ → Option ℕ
weight_by kind.Field one adds = adds
weight_by _ one adds = one

-- how many a declaration adds
abbrev pub weight : Kind → Member → Option ℕ
weight k m = weight_by k (one_or_none (is_of k m.declaration.sort)) m.adds

-- so many, and those that are added, unless there are too many without them
abbrev pub plus : ℕ → Option ℕ → Option ℕ → Option ℕ
plus most None added = None
plus most (Some n) None = None
plus most (Some n) (Some k) = if nat_lt most n then Some n else Some (n + k)

-- there are too many with those that are added, and not without them
abbrev pub exceeds : ℕ → Option ℕ → Option ℕ → Bool
exceeds most None added = false
exceeds most (Some n) None = false
exceeds most (Some n) (Some k) = nat_le n most && nat_lt most (n + k)

-- how many there are with those of a list
abbrev pub total : Kind → Option ℕ → List Member → Option ℕ
total k sum [] = sum
total k sum (m ∷ more) = total k (plus (most_of k) sum (weight k m)) more

-- the first of a list with which there are too many
abbrev pub over : Kind → Option ℕ → List Member → Option Finding
over k sum [] = None
over k sum (m ∷ more) = if exceeds (most_of k) sum (weight k m) then finding m.declaration.name.place 12 else over k (plus (most_of k) sum (weight k m)) more
