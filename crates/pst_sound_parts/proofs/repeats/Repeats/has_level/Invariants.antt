use Rattle.std.proofs.Common.{◌<◌, ◌↔◌}
use Rattle.pst_sound_parts.specs.Depth.{depth}
use Rattle.pst_sound_parts.proofs.repeats.Repeats.has_level.Given as goal

abbrev pub invariant-loop-rest : goal.invariant-loop-rest
invariant-loop-rest l = (l.left < depth l.rest) ↔ (l.fn.level < depth l.fn.self)
