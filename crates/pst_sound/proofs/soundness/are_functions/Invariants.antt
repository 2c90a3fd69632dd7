use Rattle.std.proofs.Common.{◌↔◌, All, drop, map}
use Rattle.pst_model.specs.ModelView.{view_function}
use Rattle.pst_model.specs.Sound.{IsSoundFunction}
use Rattle.pst_sound.proofs.soundness.are_functions.Given as goal

-- all are sound where those left are
abbrev pub invariant-loop-function : goal.invariant-loop-function
invariant-loop-function l = All IsSoundFunction (map view_function (drop l.function-index l.functions)) ↔ All IsSoundFunction (map view_function l.functions)
