use Rattle.std.proofs.Common.{map, string_bytes}
use Rattle.pst_line_parts.proofs.Given.{small_over}
use Rattle.pst_line_parts.proofs.numbers.over_given.Goals as goal

pub small_number-requires : goal.small_number-requires
small_number-requires c = small_over c.args.line.now.command (map string_bytes c.args.line.now.arguments.now) c.requires
