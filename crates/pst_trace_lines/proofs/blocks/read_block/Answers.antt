use Rattle.std.proofs.Common.{◌∷◌, []}
use Rattle.pst_scen.specs.declared.event.Event.TheVariants.{End}
use Rattle.pst_trace_lines.proofs.Pairing.{end_line, block_of}
use Rattle.pst_trace_lines.proofs.blocks.read_block.Goals as goal

pub returns-in-Some : goal.returns-in-Some
returns-in-Some c = (End c.in-Some.act ∷ [], c.in_ok-push.ensures.items, end_line c.args.line.now c.in-Some.act c.in-Some.ensures)

pub returns : goal.returns
returns c = block_of c.read_starts.result c.args.line.now c.args.events.now.items c.read_starts.new.events.items c.in_default.ensures c.read_starts.ensures
