use Rattle.pst_type_rules.proofs.Ordered.{same_constants}
use Rattle.pst_type_rules.proofs.laws.constants_are_one.Goals as goal

pub returns : goal.returns
returns c = λ units names constants others one other.
    same_constants c.places_are_ordered.ensures.never c.places_are_ordered.ensures.on constants others one.order other.order
    (λ v has. (other.each v).1 ((one.each v).0 has))
    (λ v has. (one.each v).1 ((other.each v).0 has))
