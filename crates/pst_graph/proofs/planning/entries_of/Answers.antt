use Rattle.std.proofs.Common.{sym, subst}
use Rattle.std.proofs.lemmas.Result.{IfOk-weaker}
use Rattle.pst_scen.specs.Plan.{Entries}
use Rattle.pst_scen.specs.Plans.{AreEntriesOf}
use Rattle.pst_graph.proofs.Numbered.{are_numbered}
use Rattle.pst_graph.proofs.planning.entries_of.Goals as goal

pub of_rows_in-requires-clause-numbered : goal.of_rows_in-requires-clause-numbered
of_rows_in-requires-clause-numbered c = are_numbered c.args.scenario.now c.args.groups.items c.requires.many c.requires.numbers

pub returns : goal.returns
returns c =
    IfOk-weaker c.of_rows_in.result _ _ (
    λ plan is.
    subst (λ (p : Entries). AreEntriesOf c.args.scenario.now p) (sym is)
    (record { many = c.requires.many; group = c.requires.numbers; must = c.requires.order.must; conflict = c.in_ok-conflict.ensures.2 })
    ) c.of_rows_in.ensures
