use Rattle.std.proofs.Common.{◌∙◌, length}
use Rattle.pst_model.specs.ModelView.{view_model}
use Rattle.pst_refusals.proofs.Placed.{by_table}
use Rattle.pst_refusals.proofs.statement.statement_of.Goals as goal

pub returns : goal.returns
returns c = c.in_ok-found.ensures ∙ by_table (view_model c.args.model.now) c.args.nodes.now c.args.places.now c.requires (length c.args.nodes.now) c.args.n
