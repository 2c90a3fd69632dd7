use Rattle.std.proofs.Common.{◌≡◌, ◌++◌, map, drop}
use Rattle.pst_model.specs.ModelView.{view_model}
use Rattle.pst_blanks.specs.Blanks.{blank_of}
use Rattle.pst_known.specs.Known.{seen}
use Rattle.pst_written_constraints.specs.Spans.{blank_bound}
use Rattle.pst_written_constraints.proofs.spans.spans_of.Given as goal

abbrev pub invariant-loop-place : goal.invariant-loop-place
invariant-loop-place l = l.spans.items ++ map (blank_bound (view_model l.scene.model.now) (seen l.scene)) (map blank_of (drop l.place-index l.places)) ≡ map (blank_bound (view_model l.scene.model.now) (seen l.scene)) (map blank_of l.places)
