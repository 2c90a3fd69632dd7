use Rattle.std.proofs.Common.{refl}
use Rattle.pst_scen.specs.Rows.{Has}
use Rattle.pst_square.proofs.Circling.{lower_on}
use Rattle.pst_square.proofs.circle.leads_below.Goals as goal

pub words-preserved : goal.words-preserved
words-preserved c =
    lower_on (Has c.args.rows.now c.args.a) c.args.ranks.now c.args.limit c.words.at c.rest_of_word.result c.words.invariant c.rest_of_word.ensures (c.if-not-are_lower.ensures refl)
