use Rattle.pst_type_rules.proofs.OneDomain.{domains_are_one}
use Rattle.pst_type_rules.proofs.constants_laws.types_have_one_domain.Goals as goal

pub returns : goal.returns
returns c = λ units names at type spans others one other.
    domains_are_one spans others one.domain.upright one.apart other.domain.upright other.apart (λ v h. (other.values v).1 ((one.values v).0 h)) (λ v h. (one.values v).1 ((other.values v).0 h))
