-- Which blocks of a trace are followed.
use Rattle.std.specs.Prelude.{◌≡◌, ◌<◌, ◌≤◌, ℕ, List, Contains, length, get_or, map, take, drop}
use Rattle.pst_scen.specs.declared.scenario.Scenario.{Scenario}
use Rattle.pst_scen.specs.declared.event.Event.{Event}
use Rattle.pst_scen.specs.Trace.{Block, AreFree, events}
use Rattle.pst_scen.specs.Plan.{Entries, members}
use Rattle.pst_order.specs.Rule.{AreByRule}
use Rattle.pst_book.specs.Books.{MayJoin}
use Rattle.pst_by_rule.specs.Blocks.{act_of, lane_of, AreOnward}

-- The events start the members of one group, each of which may join, on free lanes below 16.
pub record AreStarts (p : Entries) (trace part : List Event) : Type 0 where
  pub group : ℕ
  pub below : group < length p.groups
  pub number : get_or p.groups group 0 ≡ group
  pub members_are : map act_of part ≡ members p.groups group
  pub join : (a : ℕ) → Contains (map act_of part) a → MayJoin p trace a
  pub free : AreFree 16 trace (map act_of part) (map lane_of part)

-- The first so many events are so many blocks by the core's rule, on 16 lanes, and the others are blocks too.
pub record AreFollowed (s : Scenario) (trace : List Event) (count number : ℕ) : Type 0 where
  pub older : List Block
  pub are : events older ≡ take count trace
  pub many : length older ≡ number
  pub rule : AreByRule s 16 older
  pub inside : count ≤ length trace
  pub rest : AreOnward (drop count trace)
