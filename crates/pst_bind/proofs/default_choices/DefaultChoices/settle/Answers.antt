use Rattle.std.proofs.Common.{sym, subst}
use Rattle.pst_bind.specs.Choices.{AreTypeChoices}
use Rattle.pst_bind.proofs.Made.{on_ok, one_type_more}
use Rattle.pst_bind.proofs.default_choices.DefaultChoices.settle.Goals as goal

pub returns : goal.returns
returns c =
    on_ok c.keep.result
    (λ kept. subst (AreTypeChoices c.args.rows.now c.args.table.now) (sym kept) (one_type_more c.args.rows.now c.args.table.now c.args.self.now.known.items _ c.requires.known c.in_ok-choices.ensures))
    c.keep.ensures
