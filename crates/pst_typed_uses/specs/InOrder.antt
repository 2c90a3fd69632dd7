-- Constants in order of place.
use Rattle.std.specs.Prelude.{◌≡◌, ◌↔◌, ◌⊎◌, List, length}
use Rattle.std.specs.List.{Contains, AllAdjacentBelow}
use Rattle.pst_base.specs.Places.{IsBefore}
use Rattle.pst_type_rules.specs.declared.typed.ConstantValue.{ConstantValue}

-- none stands at an earlier place than the one in front of it
abbrev pub AreSorted : List ConstantValue → Type 0
AreSorted constants = AllAdjacentBelow (λ m n. ¬ IsBefore n.at m.at) constants (length constants)

-- two lists have the same constants, however often
abbrev pub HaveSame : List ConstantValue → List ConstantValue → Type 0
HaveSame some others = (m : ConstantValue) → Contains some m ↔ Contains others m

-- a list has one constant more
abbrev pub HasOneMore : List ConstantValue → ConstantValue → List ConstantValue → Type 0
HasOneMore some one more = (m : ConstantValue) → Contains more m ↔ (Contains some m ⊎ (one ≡ m))
