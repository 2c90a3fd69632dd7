use Rattle.pst_sources.specs.Shown.{sources_of}
use Rattle.pst_sources.proofs.Numbering.{no_rows}
use Rattle.pst_sources.proofs.fields.rows_of.Goals as goal

pub loop-declaration-init : goal.loop-declaration-init
loop-declaration-init c = no_rows (sources_of c.args.known.now) c.new-rows.result.items c.new-rows.ensures.items
