use Rattle.std.proofs.Common.{◌≡◌, ◌++◌, drop, map}
use Rattle.std.specs.List.{enumerate_from}
use Rattle.pst_model.specs.ModelView.{view_model}
use Rattle.pst_legal.specs.Growing.{open_reference}
use Rattle.pst_open_ends.proofs.acts.open_each.Given as goal

abbrev pub invariant-loop-reference : goal.invariant-loop-reference
invariant-loop-reference l = (l.number ≡ l.reference-index) × (l.found.items ++ map (open_reference (view_model l.model) l.action l.instance) (enumerate_from l.reference-index (drop l.reference-index l.references)) ≡ map (open_reference (view_model l.model) l.action l.instance) (enumerate_from 0 l.references))
