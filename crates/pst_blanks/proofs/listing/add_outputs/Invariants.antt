use Rattle.std.proofs.Common.{◌≡◌, ◌++◌, drop}
use Rattle.std.specs.Prelude.{flat_map}
use Rattle.std.specs.List.{enumerate_from}
use Rattle.pst_model.specs.ModelView.{view_model}
use Rattle.pst_blanks.specs.Blanks.{output_places}
use Rattle.pst_blanks.proofs.listing.add_outputs.Given as goal

abbrev pub invariant-loop-filled : goal.invariant-loop-filled
invariant-loop-filled l = (l.number ≡ l.filled-index) × (l.places.items ++ flat_map (output_places (view_model l.model) l.act) (enumerate_from l.filled-index (drop l.filled-index l.references)) ≡ l.initial.places.items ++ flat_map (output_places (view_model l.model) l.act) (enumerate_from 0 l.references))
