use Rattle.std.proofs.Common.{sym, ◌∙◌}
use Rattle.pst_bind.proofs.Made.{default_without}
use Rattle.pst_bind.proofs.judging.default_choice.Goals as goal

pub returns-in_default-type_of : goal.returns-in_default-type_of
returns-in_default-type_of c =
    default_without c.args.binds.now.index.now c.args.binds.now.defaults.now c.args.binds.now.table.now c.args.wanted.now.need c.args.instance (sym c.type_of.ensures ∙ c.in_default-type_of.is)
