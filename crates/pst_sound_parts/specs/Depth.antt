-- How many repetitions stand round a step.
use Rattle.std.specs.Prelude.{ℕ, ◌+◌}
use Rattle.pst_sound_parts.specs.declared.repeats.Repeats.{Repeats}
use Rattle.pst_sound_parts.specs.declared.repeats.Repeats.TheVariants.{Nothing, Within'}

abbrev pub depth : Repeats → ℕ
depth Nothing = 0
depth (Within' p outer) = depth outer + 1
