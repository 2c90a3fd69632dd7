-- How the instances are walked through: those that are listed so far, and what is still to come.
use Rattle.std.specs.Prelude.{◌≡◌, ℕ, ◌+◌, ◌<◌, ◌≤◌, List, [], ◌∷◌, ◌++◌, map, length, reverse, Vec, Option, Some, None}
use Rattle.std.specs.List.{filter_map}
use Rattle.std.specs.Option.{option_map}
use Rattle.std.specs.declared.alloc.Global.{Global}
use Rattle.pst_base.specs.declared.table.NameId.{NameId}
use Rattle.pst_ast.specs.declared.instance.Instance.{Instance}
use Rattle.pst_ast.specs.declared.scope_declaration.Declaration.{Declaration}
use Rattle.pst_ast.specs.Lookups.{type_of}
use Rattle.pst_tree.specs.declared.walk.Pending.{Pending}
use Rattle.pst_tree.specs.Instances.{instances_in, IsSubtree}

-- an instance whose last one isn't known yet
abbrev pub entry : NameId → NameId → Option ℕ → Instance
entry name component parent = record { name = name; component = component; parent = parent; last = 0 }

abbrev pub bare : Instance → Instance
bare i = entry i.name i.component i.parent

-- a declared instance that is still to come in the instance of a number
abbrev pub pending_of : List Declaration → ℕ → Declaration → Option Pending
pending_of ds parent d = option_map (λ c. record { name = d.name.id; component = c; parent = parent }) (type_of ds d)

-- those that a component declares
abbrev pub pending_in : List Declaration → ℕ → Declaration → List Pending
pending_in ds parent component = filter_map (pending_of ds parent) (instances_in ds component)

-- what is still to come, each with those below it; the first has that number
pub data AreToCome (ds : List Declaration) : ℕ → List Pending → List Instance → Type 0 where
  NoneToCome : (number : ℕ) → AreToCome ds number [] []
  MoreToCome : (number : ℕ) (p : Pending) (more : List Pending) (first rest : List Instance) → IsSubtree ds number p.component p.name (Some p.parent) first
      → AreToCome ds (number + length first) more rest → AreToCome ds number (p ∷ more) (first ++ rest)

-- these stand first among all instances, and those are still to come
pub record IsFront (ds : List Declaration) (all listed : List Instance) (pending : List Pending) : Type 0 where
  pub rest : List Instance
  pub split : map bare all ≡ listed ++ map bare rest
  pub come : AreToCome ds (length listed) pending rest

-- the instances of a root
abbrev pub AreOf : List Declaration → Declaration → List Instance → Type 0
AreOf ds root all = IsSubtree ds 0 root root.name.id None all

-- as far as the walk has come; of what is still to come the last stands first
abbrev pub IsWalk : List Declaration → Declaration → List Instance → List Pending → Type 0
IsWalk ds root listed pending = (all : List Instance) → AreOf ds root all → IsFront ds all listed (reverse pending)

-- what the walk comes to: all instances, or none where there are more than the limit
abbrev pub AreWalked : List Declaration → Declaration → Option (Vec Instance Global) → Type 0
AreWalked ds root None = (all : List Instance) → AreOf ds root all → 256 < length all
AreWalked ds root (Some listed) = ((all : List Instance) → AreOf ds root all → map bare all ≡ listed.items) × (length listed.items ≤ 256)
