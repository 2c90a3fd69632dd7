use Rattle.std.proofs.Common.{refl, arith}
use Rattle.std.specs.Prelude.{ℤ, pos, Option, None}
use Rattle.std.proofs.lemmas.Option.{none-some}
use Rattle.pst_base.specs.declared.position.Place.{Place}
use Rattle.pst_type_rules.specs.Constants.{IsConstant, First, Next}
use Rattle.pst_type_rules.specs.ConstantsTried.{units, names, number, top}
use Rattle.pst_ast.specs.Tried.{name}
use Rattle.pst_type_rules.specs.Enums.{item_at}
use Rattle.pst_type_rules.specs.Domains.{ByCount, BitOfWidth}
use Rattle.pst_terms.specs.Sources.{item_value}
use Rattle.pst_front_laws.proofs.value_laws.values_are_tried.Goals as goal

abbrev nothing : Place → Option ℤ
nothing p = None

two : IsConstant units names top (number 2 52) (pos 2)
two = record { items = λ u among. absurd (omega (arith, among.1)); value = record { known = nothing; items = λ p w e. absurd (none-some w e); value = refl } }

pub returns : goal.returns
unfolding item_value item_at
returns c = record {
  first = c.constants_are_tried.ensures.first;
  first_found = refl;
  given = c.constants_are_tried.ensures.given;
  given_found = refl;
  next = c.constants_are_tried.ensures.next;
  next_found = refl;
  with_enum = c.constants_are_tried.ensures.with_enum;
  with_enum_found = refl;
  of_other = c.constants_are_tried.ensures.of_other;
  of_other_found = refl;
  behind_other = c.constants_are_tried.ensures.behind_other;
  behind_other_found = refl;
  bits = BitOfWidth _ _ 2 (ByCount _ _ _ _ two);
  bits_found = refl;
  shared_by_rules = Next _ _ (name 2 2) (pos 0) _ refl refl refl (First _ _ refl refl refl) refl;
  shared_found = refl;
}
