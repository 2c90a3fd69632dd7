-- Sorts of declarations, and what is the same.
use Rattle.std.specs.Prelude.{nat_eq, Bool, true, false, ◌&&◌}
use Rattle.pst_base.specs.declared.position.Place.{Place}
use Rattle.pst_base.specs.declared.table.NameId.{NameId}
use Rattle.pst_ast.specs.declared.declaration.ObjectWord.TheVariants as word
use Rattle.pst_ast.specs.declared.scope_declaration.Scope.{Scope}
use Rattle.pst_ast.specs.declared.scope_declaration.Scope.TheVariants.{Files, Part}
use Rattle.pst_ast.specs.declared.scope_declaration.Sort.{Sort}
use Rattle.pst_ast.specs.declared.scope_declaration.Sort.TheVariants as sort

abbrev pub same_name : NameId → NameId → Bool
same_name a b = nat_eq a.0 b.0

abbrev pub same_place : Place → Place → Bool
same_place a b = nat_eq a.file b.file && (nat_eq a.line b.line && nat_eq a.column b.column)

abbrev pub same_scope : Scope → Scope → Bool
same_scope Files Files = true
same_scope Files (Part b) = false
same_scope (Part a) Files = false
same_scope (Part a) (Part b) = same_place a b

abbrev pub is_component : Sort → Bool
is_component sort.Component = true
is_component _ = false

abbrev pub is_action : Sort → Bool
is_action (sort.Action base) = true
is_action _ = false

abbrev pub is_object : Sort → Bool
is_object (sort.Object word) = true
is_object _ = false

abbrev pub is_state : Sort → Bool
is_state (sort.Object word.State) = true
is_state _ = false

abbrev pub is_resource : Sort → Bool
is_resource (sort.Object word.Resource) = true
is_resource _ = false

abbrev pub is_enum : Sort → Bool
is_enum sort.Enumeration = true
is_enum _ = false

abbrev pub is_function : Sort → Bool
is_function sort.Function = true
is_function _ = false

abbrev pub is_instance : Sort → Bool
is_instance (sort.Instance of) = true
is_instance _ = false

abbrev pub is_pool : Sort → Bool
is_pool (sort.Pool of) = true
is_pool _ = false

abbrev pub is_item : Sort → Bool
is_item (sort.Item level) = true
is_item _ = false

abbrev pub is_field : Sort → Bool
is_field (sort.Field array) = true
is_field _ = false

abbrev pub is_reference : Sort → Bool
is_reference (sort.Reference of output) = true
is_reference _ = false

abbrev pub is_claim : Sort → Bool
is_claim (sort.Claim of) = true
is_claim _ = false

abbrev pub is_handle : Sort → Bool
is_handle (sort.Handle of) = true
is_handle _ = false

-- a reference or a claim
abbrev pub is_need : Sort → Bool
is_need (sort.Reference of output) = true
is_need (sort.Claim of) = true
is_need _ = false
