use Rattle.pst_ast.specs.DeclarationView.{view_item}
use Rattle.pst_parser.proofs.ItemsLoop.{ItemsLoop}
use Rattle.pst_parser.proofs.units.items.Given as goal
use Rattle.std.proofs.Common.{◌-◌, map, length}

abbrev pub invariant-items : goal.invariant-items
invariant-items l = ItemsLoop l.tokens (map view_item l.items.items) l.place

abbrev pub decreases-items : goal.decreases-items
decreases-items l = length l.tokens - l.place
