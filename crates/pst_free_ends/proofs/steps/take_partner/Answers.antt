use Rattle.std.proofs.Common.{sym, subst}
use Rattle.std.specs.Prelude.{IfOk}
use Rattle.pst_open_ends.specs.Spots.{read_spot}
use Rattle.pst_free_ends.specs.Steps.{linked_by, Moved}
use Rattle.pst_free_ends.proofs.steps.take_partner.Goals as goal

pub returns-in-Some-clause-ok : goal.returns-in-Some-clause-ok
returns-in-Some-clause-ok c = λ acts are turn ahead.
    subst (λ o. IfOk c.take_stream.result (λ taken. Moved c.take_stream.new.sources taken acts (linked_by (read_spot c.args.need.now) o acts))) (sym c.in-Some.is) (c.take_stream.ensures.ok acts are turn ahead)
