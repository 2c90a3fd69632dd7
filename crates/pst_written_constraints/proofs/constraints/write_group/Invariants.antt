use Rattle.std.proofs.Common.{◌≡◌, All, map, true}
use Rattle.pst_expr.specs.Tree.{view}
use Rattle.pst_model.specs.ConstraintTree.{view_constraint}
use Rattle.pst_model.specs.ModelView.{view_model}
use Rattle.pst_blanks.specs.Blanks.{blank_of}
use Rattle.pst_known.specs.Known.{seen}
use Rattle.pst_constraint_sites.specs.Views.{view_site}
use Rattle.pst_written_constraints.specs.Written.{IsImplied}
use Rattle.pst_written_constraints.specs.Open.{AreWrittenTo, Stay}
use Rattle.pst_written_constraints.proofs.constraints.write_group.Given as goal

abbrev pub invariant-loop-constraint : goal.invariant-loop-constraint
invariant-loop-constraint l =
    (l.written.spans ≡ l.initial.written.spans)
    × (All (IsImplied (view_model l.scene.model.now) (seen l.scene)) (map view l.initial.written.constraints.items) → All (IsImplied (view_model l.scene.model.now) (seen l.scene)) (map view l.written.constraints.items))
    × Stay (map view l.initial.written.constraints.items) (map view l.written.constraints.items)
    × (l.written.whole ≡ true → l.initial.written.whole ≡ true)
    × (l.written.whole ≡ true → AreWrittenTo (view_model l.scene.model.now) (seen l.scene) (map blank_of l.places) (map view l.written.constraints.items) (view_site l.group.site) (map view_constraint l.group.constraints.now) l.constraint-index)
