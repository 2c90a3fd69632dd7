use Rattle.std.proofs.Common.{rules, sym, ◌∙◌}
use Rattle.pst_reading.proofs.Peeking.{name_then_there}
use Rattle.pst_reading.proofs.steps.name_then.Goals as goal

pub returns-then-is_name : goal.returns-then-is_name
returns-then-is_name c = c.is.ensures ∙ sym (name_then_there c.args.wanted c.args.at c.args.tokens.now (search rules))
