-- Which branches of a block are joined, as flags and as bits.
use Rattle.std.specs.Prelude.{ℕ, ◌+◌, ◌*◌, Bool, true, false, not, List, [], ◌∷◌, Option, Some, None, if◌then◌else◌}
use Rattle.std.specs.List.{filter, list_any}
use Rattle.pst_base.specs.declared.table.NameId.{NameId}
use Rattle.pst_ast.specs.ActivityTree.{StatementTree, CoreTree, CoreBind}
use Rattle.pst_ast.specs.Sorts.{same_name}
use Rattle.pst_ast.specs.Uses.{is_branch, label_of}

abbrev pub is_bind : CoreTree → Bool
is_bind (CoreBind bind) = true
is_bind _ = false

-- the branches among statements, each with its label if it has one
abbrev pub labels_of : List StatementTree → List (Option NameId)
labels_of [] = []
labels_of (s ∷ more) = if is_branch s then label_of s ∷ labels_of more else labels_of more

abbrev pub is_joined : List NameId → Option NameId → Bool
is_joined named None = false
is_joined named (Some label) = list_any (same_name label) named

-- the names behind a branch
abbrev pub left_behind : List NameId → Option NameId → List NameId
left_behind named None = named
left_behind named (Some label) = filter (λ n. not (same_name label n)) named

-- for each branch whether it is joined: of several with a label that is named the first
abbrev pub flags_of : List NameId → List (Option NameId) → List Bool
flags_of named [] = []
flags_of named (label ∷ more) = is_joined named label ∷ flags_of (left_behind named label) more

-- bits and one more as the lowest
abbrev pub bit_before : Bool → ℕ → ℕ
bit_before flag bits = (if flag then 1 else 0) + 2 * bits

abbrev pub bits_of : List Bool → ℕ
bits_of [] = 0
bits_of (flag ∷ more) = bit_before flag (bits_of more)
