use Rattle.std.proofs.Common.{◌↔◌, AllPairs, drop}
use Rattle.pst_model.specs.ModelView.{view_model, view_activity}
use Rattle.pst_model.specs.SoundActivity.{AreTiesApart}
use Rattle.pst_sound.proofs.ties.are_all_apart.Given as goal

-- all are apart where those left are
abbrev pub invariant-loop-index : goal.invariant-loop-index
invariant-loop-index l = AllPairs (AreTiesApart (view_model l.model) (view_activity l.activity)) (drop l.index l.ties) ↔ AllPairs (AreTiesApart (view_model l.model) (view_activity l.activity)) l.ties
