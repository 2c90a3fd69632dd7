use Rattle.std.proofs.Common.{take, map}
use Rattle.pst_ast.specs.DeclarationView.{view_unit}
use Rattle.pst_sources_read.specs.Parsed.{AreParsed}
use Rattle.pst_sources_read.proofs.parsing.parse_units.Given as goal

-- the sources so far are units
abbrev pub invariant-loop-number : goal.invariant-loop-number
invariant-loop-number l = AreParsed (take l.number l.tokens) (map view_unit l.units.items)
