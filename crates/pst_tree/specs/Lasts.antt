-- The last instances of subtrees.
use Rattle.std.specs.Prelude.{ℕ, ◌+◌, nat_lt, not, Bool, false, List, [], ◌∷◌, Option, Some, None, if◌then◌else◌}
use Rattle.pst_ast.specs.declared.instance.Instance.{Instance}

-- the parent has that number or a greater one
abbrev pub is_from : ℕ → Option ℕ → Bool
is_from n None = false
is_from n (Some parent) = not (nat_lt parent n)

-- how many, one after another, stand in the instance of a number or in one behind it
abbrev pub run_from : ℕ → List Instance → ℕ
run_from n [] = 0
run_from n (y ∷ more) = if is_from n y.parent then run_from n more + 1 else 0

abbrev pub with_last : ℕ → Instance → List Instance → Instance
with_last n y more = record { name = y.name; component = y.component; parent = y.parent; last = n + run_from n more }

-- each with the number of the last in its subtree; the first has that number
abbrev pub lasts_from : ℕ → List Instance → List Instance
lasts_from n [] = []
lasts_from n (y ∷ more) = with_last n y more ∷ lasts_from (n + 1) more
