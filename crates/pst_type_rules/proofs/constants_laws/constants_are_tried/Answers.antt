use Rattle.pst_type_rules.proofs.ConstantsTried.{first, given, next, of_other, behind_other, with_enum, itself, not_needed, in_second, no_quotient, right_not_needed, no_constant}
use Rattle.pst_type_rules.proofs.DomainTried.{one_span}
use Rattle.pst_type_rules.proofs.constants_laws.constants_are_tried.Goals as goal

pub returns : goal.returns
returns c = record {
  first = first;
  given = given;
  next = next;
  of_other = of_other;
  behind_other = behind_other;
  with_enum = with_enum;
  itself = itself;
  not_needed = not_needed;
  in_second = in_second;
  no_quotient = no_quotient;
  right_not_needed = right_not_needed;
  no_constant = no_constant;
  one_span = one_span;
}
