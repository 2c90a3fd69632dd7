-- The instances in an instance, by their names.
use Rattle.std.specs.Prelude.{ℕ, Bool, nat_eq, ◌&&◌, Option, Some, None, if◌then◌else◌}
use Rattle.std.specs.Option.{option_or}
use Rattle.pst_base.specs.declared.table.NameId.{NameId}
use Rattle.pst_ast.specs.declared.instance.Instance.{Instance}
use Rattle.pst_bound_pools.specs.declared.instance_table.ChildKey.{ChildKey}
use Rattle.pst_bound_pools.specs.Serving.{is_parent}

abbrev pub child_key : ℕ → NameId → ChildKey
child_key parent name = record { parent = parent; name = name.0 }

-- whether two keys are one
abbrev pub same_child : ChildKey → ChildKey → Bool
same_child a b = nat_eq a.parent b.parent && nat_eq a.name b.name

-- an instance has that name, in that instance
abbrev pub is_child : ChildKey → Instance → Bool
is_child q i = is_parent q.parent i.parent && nat_eq i.name.0 q.name

-- what was found, or else the number, where it is found too
abbrev pub or_number : Option ℕ → Bool → ℕ → Option ℕ
or_number found next number = option_or found (if next then Some number else None)
