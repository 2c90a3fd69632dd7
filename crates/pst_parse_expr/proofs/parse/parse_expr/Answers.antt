use Rattle.pst_parse_expr.proofs.Answering.{tree_answers}
use Rattle.pst_parse_expr.proofs.parse.parse_expr.Goals as goal

pub returns : goal.returns
returns c = tree_answers c.args.tokens.now c.args.at c.args.depth c.requires.ended c.requires.inside _ c.in_ok-expr.ensures
