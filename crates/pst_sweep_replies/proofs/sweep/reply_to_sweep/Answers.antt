use Rattle.std.proofs.Common.{arith}
use Rattle.pst_model.specs.ModelView.{view_model}
use Rattle.pst_sweep_replies.proofs.Sweeps.{rows_long, table_told}
use Rattle.pst_sweep_replies.proofs.sweep.reply_to_sweep.Goals as goal

pub reply_to_table-requires-clause-types : goal.reply_to_table-requires-clause-types
reply_to_table-requires-clause-types g c =
    rows_long (view_model c.args.model.now) c.args.root c.args.infer c.args.budget c.args.first c.args.count c.in_ok-table.table.rows.items c.in_ok-table.ensures

pub reply_to_table-requires-clause-few : goal.reply_to_table-requires-clause-few
reply_to_table-requires-clause-few g c = let many = c.in_ok-table.ensures.many in omega (arith, many, c.ranges.count.fits)

pub returns : goal.returns
returns g c =
    table_told c.args.names.now (view_model c.args.model.now) c.args.root c.args.infer c.args.budget c.args.first c.args.count c.in_ok-table.table.rows.items c.reply_to_table.result c.in_ok-table.ensures
    c.reply_to_table.ensures
