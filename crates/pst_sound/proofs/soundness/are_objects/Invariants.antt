use Rattle.std.proofs.Common.{◌↔◌, All, drop, map}
use Rattle.pst_model.specs.ModelView.{view_object}
use Rattle.pst_model.specs.Sound.{IsSoundObject}
use Rattle.pst_sound.proofs.soundness.are_objects.Given as goal

-- all are sound where those left are
abbrev pub invariant-loop-object : goal.invariant-loop-object
invariant-loop-object l = All IsSoundObject (map view_object (drop l.object-index l.objects)) ↔ All IsSoundObject (map view_object l.objects)
