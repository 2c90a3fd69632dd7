use Rattle.std.proofs.Common.{refl, map, string_bytes, sym, subst}
use Rattle.pst_words.specs.declared.command.Command.{Command}
use Rattle.pst_outcome.specs.Tasks.{AreLimits}
use Rattle.pst_portable.proofs.Tasks.{are_limits}
use Rattle.pst_portable.proofs.task.limits_of.Goals as goal

pub returns-in-Gen : goal.returns-in-Gen
returns-in-Gen c = subst (λ (k : Command). AreLimits k (map string_bytes c.args.line.now.arguments.now) 0 100000) (sym c.in-Gen.is) (refl, refl)

pub returns-in_default : goal.returns-in_default
returns-in_default c =
    are_limits c.args.line.now.command (map string_bytes c.args.line.now.arguments.now) c.infer_given.result c.number.result c.in_default.not-Gen c.infer_given.ensures
    (record { is_given = c.number.ensures.is_given; is_not = c.number.ensures.is_not })
