use Rattle.std.proofs.Common.{sym, subst}
use Rattle.std.specs.Prelude.{IfOk}
use Rattle.pst_open_ends.specs.Spots.{read_spot}
use Rattle.pst_free_ends.specs.Steps.{linked_by, Moved}
use Rattle.pst_free_ends.proofs.steps.take_previous.Goals as goal

pub returns-in-Some-clause-ok : goal.returns-in-Some-clause-ok
returns-in-Some-clause-ok c = λ acts are turn ahead.
    subst (λ o. IfOk c.take_writer.result (λ taken. Moved c.take_writer.new.sources taken acts (linked_by (read_spot c.args.need.now) o acts))) (sym c.in-Some.is) (c.take_writer.ensures.ok acts are turn ahead)

pub returns-in-None-clause-ok : goal.returns-in-None-clause-ok
returns-in-None-clause-ok c = λ acts are turn ahead.
    subst (λ o. IfOk c.take_first.result (λ taken. Moved c.take_first.new.sources taken acts (linked_by (read_spot c.args.need.now) o acts))) (sym c.in-None.is) (c.take_first.ensures.ok acts are turn ahead)
