use Rattle.std.proofs.Common.{map, string_bytes, sym, subst, refl, codes}
use Rattle.pst_words.specs.declared.command.Command.{Command}
use Rattle.pst_outcome.specs.Tasks.{IsRoot}
use Rattle.pst_line_parts.proofs.root.root_of.Goals as goal

pub returns-then-is_gen : goal.returns-then-is_gen
returns-then-is_gen c = subst (λ (k : Command). IsRoot k (map string_bytes c.args.line.now.arguments.now) (codes "pss_top") (codes "entry")) (sym c.if-is_gen.ensures) (refl, refl)
