-- Values by both definitions, of the two enums and of the type of `pst_type_rules`' facts:
--   enum E { A, B = 1 << 4, C, D = F::Y * 2 }
--   enum F { X = C, Y, .. }
--   bit[2]
-- and of an enum of three items, two of which are told to stand at one place: there the definitions differ, so a place of its own for
-- each name is needed.
use Rattle.std.specs.Prelude.{◌≡◌, ℕ, ℤ, pos, List, [], ◌∷◌, Option, Some, None}
use Rattle.pst_ast.specs.SharedTree.{PlainTree, PlainBit, MakeWidth}
use Rattle.pst_ast.specs.DeclarationTree.{UnitTree, MakeUnit, ItemEnum, MakeEnum, MakeNextEnumItem}
use Rattle.pst_ast.specs.Tried.{at, name}
use Rattle.pst_type_rules.specs.declared.typed.ConstantValue.{ConstantValue}
use Rattle.pst_type_rules.specs.ConstantsTried.{units, names, number, item, end, top, Item}
use Rattle.pst_type_rules.specs.Constants.{IsItemValue}
use Rattle.pst_type_rules.specs.Domains.{HasSpan, unsigned_span}
use Rattle.pst_terms.specs.Sources.{Sources, item_value}
use Rattle.pst_elab_rules.specs.Spans.{plain_span}

abbrev pub constant : ℕ → ℕ → ConstantValue
constant column value = record { at = at column; value = pos value }

-- the values of B, D and X, and of the width
abbrev pub tried : Sources
tried = record { units = units; names = names; constants = constant 4 16 ∷ constant 9 36 ∷ constant 22 17 ∷ constant 52 2 ∷ [] }

abbrev pub two_bits : PlainTree
two_bits = PlainBit (at 50) (Some (MakeWidth (at 51) (number 2 52) None (at 53)))

abbrev pub found : ℕ → Option ℤ
found column = item_value tried (at column)

-- the first two names at one place
abbrev pub shared : List UnitTree
shared = MakeUnit (ItemEnum (MakeEnum (at 1) (name 0 1) (at 1) (item 1 2) (MakeNextEnumItem (at 2) (item 2 2) ∷ MakeNextEnumItem (at 3) (item 3 3) ∷ []) (at 4)) ∷ []) end ∷ []

abbrev pub of_shared : Sources
of_shared = record { units = shared; names = names; constants = [] }

pub record ValuesAreTried : Type 0 where
  pub first : Item 2 (pos 0)
  pub first_found : found 2 ≡ Some (pos 0)
  pub given : Item 3 (pos 16)
  pub given_found : found 3 ≡ Some (pos 16)
  pub next : Item 7 (pos 17)
  pub next_found : found 7 ≡ Some (pos 17)
  pub with_enum : Item 8 (pos 36)
  pub with_enum_found : found 8 ≡ Some (pos 36)
  pub of_other : Item 21 (pos 17)
  pub of_other_found : found 21 ≡ Some (pos 17)
  pub behind_other : Item 23 (pos 18)
  pub behind_other_found : found 23 ≡ Some (pos 18)
  pub bits : HasSpan units names top two_bits (unsigned_span 2)
  pub bits_found : plain_span tried two_bits ≡ unsigned_span 2
  pub shared_by_rules : IsItemValue shared names (at 3) (pos 1)
  pub shared_found : item_value of_shared (at 3) ≡ Some (pos 2)
