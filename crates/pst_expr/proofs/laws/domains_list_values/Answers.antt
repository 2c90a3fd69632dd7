use Rattle.pst_expr.proofs.DomainLemmas as lemmas
use Rattle.pst_expr.proofs.laws.domains_list_values.Goals as goal

pub returns : goal.returns
returns c = lemmas.domains_list_values
