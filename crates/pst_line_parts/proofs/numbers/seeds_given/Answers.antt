use Rattle.std.proofs.Common.{map, string_bytes}
use Rattle.pst_line_parts.proofs.Given.{small_count}
use Rattle.pst_line_parts.proofs.numbers.seeds_given.Goals as goal

pub small_number-count-requires : goal.small_number-count-requires
small_number-count-requires c = small_count c.args.line.now.command (map string_bytes c.args.line.now.arguments.now) c.requires
