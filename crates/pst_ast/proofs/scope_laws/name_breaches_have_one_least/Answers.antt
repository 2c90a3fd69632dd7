use Rattle.pst_ast.specs.NameRules.{NameBreach}
use Rattle.pst_ast.proofs.Least.{least_is_one}
use Rattle.pst_ast.proofs.scope_laws.name_breaches_have_one_least.Goals as goal

pub returns : goal.returns
returns c = λ units names p q r s one other. least_is_one c.places_are_ordered.ensures.never c.places_are_ordered.ensures.on (NameBreach units names) p q r s one other
