use Rattle.pst_sources.specs.Shown.{sources_of}
use Rattle.pst_sources.proofs.Numbering.{row_added}
use Rattle.pst_sources.proofs.fields.add_row.Goals as goal

pub returns : goal.returns
returns c = row_added (sources_of c.args.known.now) c.args.rows.now.items c.push.new.self.items c.in_ok-row.row c.in_ok-push.ensures.items c.in_ok-row.ensures
