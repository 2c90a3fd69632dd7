use Rattle.pst_type_rules.proofs.ShortestDomain.{shortest_domain}
use Rattle.pst_type_rules.proofs.constants_laws.domains_are_shortest.Goals as goal

pub returns : goal.returns
returns c = λ units names at type spans others one same.
    shortest_domain spans others one.domain.upright one.apart (λ v h. (same v).1 ((one.values v).0 h)) (λ v h. (one.values v).1 ((same v).0 h))
