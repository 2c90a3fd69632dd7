-- The invariant of a book.
use Rattle.std.specs.Prelude.{◌*◌, ◌^◌, ◌<◌, ◌≤◌, length}
use Rattle.pst_book.specs.declared.book.Book.TheInside.{Inside}
use Rattle.pst_scen.specs.declared.scenario.Scenario.{Scenario}
use Rattle.pst_scen.specs.Plan.{Entries, widest}
use Rattle.pst_scen.specs.Plans.{IsPlanOf}
use Rattle.pst_order.specs.Facts.{LinksStates}
use Rattle.pst_order.specs.Rule.{IsByCore}
use Rattle.pst_book.specs.Books.{View}
use Rattle.pst_book.specs.Tables.{RunView}
use Rattle.pst_book.specs.Ready.{AreReady}
use Rattle.pst_book.specs.Waiting.{IsWaiting}

-- what a run of the scenario is seen as
abbrev pub view_at : Scenario → RunView → View
view_at s run = record { scenario = s; plan = run.plan; lanes = run.lanes; trace = run.trace }

-- the run with the whole plan
abbrev pub run_by : Entries → RunView → RunView
run_by plan run = record { plan = plan; lanes = run.lanes; trace = run.trace; room = run.room }

abbrev pub view_of : Inside → View
view_of b = view_at b.scenario.now (run_by b.plan.now b.run)

-- The core made the trace, and there is room for each event that can come.
pub record IsKept (s : Scenario) (run : RunView) : Type 0 where
  pub links : LinksStates s
  pub plan : IsPlanOf s run.plan
  pub some : 1 ≤ run.lanes
  pub few : run.lanes ≤ 16
  pub wide : widest run.plan.groups ≤ run.lanes
  pub core : IsByCore s run.lanes run.trace
  pub small : length s.actions < 2 ^ 31
  pub room : 2 * length s.actions ≤ run.room

-- the run waits as the whole plan asks, and the blocks of the groups that are ready are marked
pub record IsBook (b : Inside) : Type 0 where
  pub kept : IsKept b.scenario.now (run_by b.plan.now b.run)
  pub waits : IsWaiting b.plan.now b.run.plan
  pub ready : AreReady b.run.plan b.run.trace b.ready.items
