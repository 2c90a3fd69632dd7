use Rattle.std.proofs.lemmas.Result.{IfOk-weaker}
use Rattle.pst_declaration_rules.proofs.DeclarationsJudged.{declarations_are_least}
use Rattle.pst_declaration_rules.proofs.declarations.least_known.Goals as goal

pub returns : goal.returns
returns c = IfOk-weaker c.least_of_all.result _ _ (declarations_are_least c.args.known.now c.requires c.constants_are_found.ensures c.places_are_ordered.ensures.on) c.least_of_all.ensures
