use Rattle.std.proofs.lemmas.Result.{IfOk-weaker}
use Rattle.pst_declaration_rules.proofs.Tallying.{none_tallied}
use Rattle.pst_declaration_rules.proofs.tallies.no_tallies.Goals as goal

pub returns : goal.returns
returns c = IfOk-weaker c.without_tallies.result _ _ (λ ts none. none_tallied c.args.known.now ts.items none) c.without_tallies.ensures
