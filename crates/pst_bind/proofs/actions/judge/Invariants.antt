use Rattle.std.proofs.Common.{drop}
use Rattle.std.specs.List.{enumerate_from}
use Rattle.pst_ast.specs.Sorts.{is_action}
use Rattle.pst_type_rules.specs.Members.{those_that}
use Rattle.pst_action_needs.specs.Inheriting.{AreInherited}
use Rattle.pst_bind.specs.Choices.{AreTypeChoices}
use Rattle.pst_bind.specs.Judging.{choice_for}
use Rattle.pst_bind.specs.ListedNeeds.{needs_from, needs_found}
use Rattle.pst_bind.proofs.Judges.{IsOnTheWay}
use Rattle.pst_bind.proofs.actions.judge.Given as goal

abbrev pub invariant-loop-action : goal.invariant-loop-action
invariant-loop-action l = record {
  way : IsOnTheWay (choice_for l.binds.index.now l.binds.explicit.now l.binds.defaults.now l.binds.table.now)
      (needs_from l.sites l.binds.index.now l.binds.table.now (enumerate_from l.number (those_that is_action (drop l.action-index l.binds.index.now)))) l.judged
      (needs_found l.sites l.binds.index.now l.binds.table.now) l.initial.judged;
  inherited : AreInherited l.sites l.binds.index.now l.table.rows.items;
  known : AreTypeChoices l.binds.defaults.now l.binds.table.now l.known.known.items;
}
