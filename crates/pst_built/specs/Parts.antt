-- What of a scenario its first parts read: its leaves alone, and then its links.
use Rattle.std.specs.Prelude.{[], map, length, take}
use Rattle.pst_scen.specs.declared.act.Act.{Act}
use Rattle.pst_scen.specs.declared.act.Filled.{Filled}
use Rattle.pst_scen.specs.declared.act.Link.TheVariants.{Nothing}
use Rattle.pst_scen.specs.declared.scenario.Scenario.{Scenario}
use Rattle.pst_scen.specs.Scenarios.{leaves_of}

abbrev pub without_values : Filled → Filled
without_values filled = record filled { values = [] }

abbrev pub without_link : Filled → Filled
without_link filled = record filled { values = []; link = Nothing }

-- an action with its links alone
abbrev pub linked_act : Act → Act
linked_act act = record act { fields = []; references = map without_values act.references; claims = [] }

-- an action of which nothing is known but its type, its instance and its leaf
abbrev pub bare_act : Act → Act
bare_act act = record act { fields = []; references = map without_link act.references; claims = [] }

-- the scenario with its nodes and the actions of its leaves, of which nothing more is known
abbrev pub leaves_alone : Scenario → Scenario
leaves_alone s = record s { actions = map bare_act (take (length (leaves_of s.nodes)) s.actions); firsts = [] }

-- the scenario with all its actions and links, but without values
abbrev pub links_alone : Scenario → Scenario
links_alone s = record s { actions = map linked_act s.actions; firsts = [] }
