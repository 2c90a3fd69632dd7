use Rattle.std.proofs.Common.{◌≡◌, get_or, drop, map, string_bytes, codes}
use Rattle.pst_files_read.specs.Files.{sources_in}
use Rattle.pst_outcome.specs.Texts.{source_name}
use Rattle.pst_line_parts.proofs.printing.source_name.Given as goal

-- so many more sources stand before it
abbrev pub invariant-loop-i : goal.invariant-loop-i
invariant-loop-i l = source_name (map string_bytes l.arguments) l.number ≡ get_or (sources_in (drop l.i (map string_bytes l.arguments))) l.left (codes "root")
