-- The laws of order, of legal traces and of the core.
use Rattle.std.specs.Prelude.{◌≡◌, ◌↔◌, get_or, ◌≤◌, ◌<◌, ◌*◌, ℕ, List, [], ◌∷◌, ◌++◌, length, Contains}
use Rattle.pst_scen.specs.declared.scenario.Scenario.{Scenario}
use Rattle.pst_scen.specs.declared.event.Event.{Event}
use Rattle.pst_scen.specs.Order.{Together, Must}
use Rattle.pst_scen.specs.Conflicts.{Conflict}
use Rattle.pst_scen.specs.Trace.{Ended, Runs, Block, Starts, events, AreLegal, IsLegalTrace, IsWhole, IsWholeGroup, Prefix}
use Rattle.pst_scen.specs.Plan.{Entries, members, widest}
use Rattle.pst_scen.specs.Plans.{CanRun, AreEntriesOf, IsPlanOf}
use Rattle.pst_scen.specs.Refusals.{IsUnrefused}
use Rattle.pst_scen.specs.Core.{IsStartable, Command, Step, Core, commands_of}
use Rattle.pst_order.specs.Facts.{LinksStates, IsLinked}
use Rattle.pst_order.specs.Rule.{AreByRule, IsByRule, IsByCore, AllKeepReaders, open_count, close_count}

-- Two actions that run at one moment of a whole legal trace have no order and no conflict.
abbrev pub RunningMeet : Type 0
RunningMeet = (s : Scenario) (lanes a b : ℕ) (trace : List Event) → Prefix s lanes trace → Runs trace a → Runs trace b → (Must s a b → ⊥) × (Conflict s a b → ⊥)

-- In a whole legal trace what must come before an action has ended where it starts.
abbrev pub MustEndsBefore : Type 0
MustEndsBefore =
    (s : Scenario) (lanes a b : ℕ) (newer older : List Block) (members used : List ℕ)
    → AreLegal s lanes (newer ++ Starts members used ∷ older) → IsWhole s (events (newer ++ Starts members used ∷ older))
    → Must s a b → Contains members b → Ended (events older) a

-- What must come before an action must come before each member of its group.
abbrev pub MustKeepsGroups : Type 0
MustKeepsGroups = (s : Scenario) (a b c : ℕ) → Must s a b → Together s b c → Must s a c

-- Where a whole legal trace exists no action must come before itself,
abbrev pub WholeHasNoCycle : Type 0
WholeHasNoCycle = (s : Scenario) (a : ℕ) → CanRun s → a < length s.actions → Must s a a → ⊥

-- and no two members of a group conflict.
abbrev pub WholeHasNoClash : Type 0
WholeHasNoClash = (s : Scenario) (a b : ℕ) → CanRun s → Together s a b → Conflict s a b → ⊥

-- What must come before an action of the scenario is one too.
abbrev pub MustIsInside : Type 0
MustIsInside = (s : Scenario) (a b : ℕ) → CanRun s → b < length s.actions → Must s a b → a < length s.actions

-- What begins a whole legal trace is made by the core's rule.
abbrev pub PrefixIsByRule : Type 0
PrefixIsByRule = (s : Scenario) (lanes : ℕ) (trace : List Event) → Prefix s lanes trace → IsByRule s lanes trace

-- What the core's rule makes is legal,
abbrev pub RuleIsLegal : Type 0
RuleIsLegal = (s : Scenario) (lanes : ℕ) (trace : List Event) → LinksStates s → CanRun s → IsByRule s lanes trace → IsLegalTrace s lanes trace

-- and begins a whole legal trace, on lanes for the widest group.
abbrev pub RuleIsPrefix : Type 0
RuleIsPrefix =
    (s : Scenario) (p : Entries) (lanes : ℕ) (trace : List Event)
    → LinksStates s → IsPlanOf s p → widest p.groups ≤ lanes → IsByRule s lanes trace → Prefix s lanes trace

-- A legal trace in which no object is replaced before its readers ended begins a whole one.
abbrev pub KeptIsPrefix : Type 0
KeptIsPrefix =
    (s : Scenario) (p : Entries) (lanes : ℕ) (blocks : List Block)
    → LinksStates s → IsPlanOf s p → widest p.groups ≤ lanes → AreLegal s lanes blocks → AllKeepReaders s blocks → Prefix s lanes (events blocks)

-- What the core's rule makes replaces no object before its readers ended.
abbrev pub RuleKeepsReaders : Type 0
RuleKeepsReaders = (s : Scenario) (lanes : ℕ) (blocks : List Block) → AreByRule s lanes blocks → AllKeepReaders s blocks

-- A trace has one cutting into blocks.
abbrev pub BlocksAreOne : Type 0
BlocksAreOne = (s : Scenario) (lanes more : ℕ) (one other : List Block) → AreLegal s lanes one → AreLegal s more other → events one ≡ events other → one ≡ other

-- What the core makes is made by its rule.
abbrev pub CoreIsByRule : Type 0
CoreIsByRule = (s : Scenario) (lanes : ℕ) (trace : List Event) → IsByCore s lanes trace → IsByRule s lanes trace

-- Where nothing runs and not every action has ended, a group can start.
abbrev pub RuleGoesOn : Type 0
RuleGoesOn =
    (s : Scenario) (p : Entries) (lanes : ℕ) (trace : List Event)
    → LinksStates s → IsPlanOf s p → widest p.groups ≤ lanes → IsByRule s lanes trace
    → ((a : ℕ) → Runs trace a → ⊥) → (a : ℕ) → a < length s.actions → (Ended trace a → ⊥)
    → (members : List ℕ) × IsStartable s lanes trace members

-- A trace by the rule has no more than two events for each action,
abbrev pub RuleFits : Type 0
RuleFits = (s : Scenario) (lanes : ℕ) (trace : List Event) → IsByRule s lanes trace → length trace ≤ 2 * length s.actions

-- and no more blocks start, and no more end, than there are actions.
abbrev pub RuleIsFew : Type 0
RuleIsFew =
    (s : Scenario) (lanes : ℕ) (trace : List Event) → IsByRule s lanes trace
    → (open_count (commands_of trace) ≤ length s.actions) × (close_count (commands_of trace) ≤ length s.actions)

-- The core makes one trace of a list of commands.
abbrev pub CoreIsOne : Type 0
CoreIsOne = (s : Scenario) (lanes : ℕ) (commands : List Command) (one other : List Event) → Core s lanes commands one → Core s lanes commands other → one ≡ other

-- A further command makes of what the core has made what its step does.
abbrev pub CoreGrows : Type 0
CoreGrows =
    (s : Scenario) (lanes : ℕ) (commands : List Command) (command : Command) (before after : List Event)
    → Core s lanes commands before → Step s lanes before command after → Core s lanes (commands ++ command ∷ []) after

-- Of the commands of its trace the core makes the trace again.
abbrev pub CoreMakesAgain : Type 0
CoreMakesAgain = (s : Scenario) (lanes : ℕ) (trace : List Event) → IsByCore s lanes trace → Core s lanes (commands_of trace) trace

-- A linked scenario that isn't refused has a whole legal trace, so its entries are its plan.
abbrev pub UnrefusedIsPlanned : Type 0
UnrefusedIsPlanned = (s : Scenario) (p : Entries) → IsLinked s → AreEntriesOf s p → IsUnrefused s → IsPlanOf s p

-- A scenario that has a plan isn't refused.
abbrev pub PlannedIsUnrefused : Type 0
PlannedIsUnrefused = (s : Scenario) (p : Entries) → IsPlanOf s p → IsUnrefused s

-- The members of a group are the actions of its number.
abbrev pub MembersAreThose : Type 0
MembersAreThose = (groups : List ℕ) (group a : ℕ) → Contains (members groups group) a ↔ ((a < length groups) × (get_or groups a 0 ≡ group))

-- The members of each group of a scenario's plan are one whole group, of which the number is the first.
abbrev pub PlanGroupsAreWhole : Type 0
PlanGroupsAreWhole =
    (s : Scenario) (p : Entries) (a : ℕ) → IsPlanOf s p → a < length s.actions
    → IsWholeGroup s (members p.groups (get_or p.groups a 0)) × (get_or (members p.groups (get_or p.groups a 0)) 0 0 ≡ get_or p.groups a 0)

-- Two whole groups with a common member are one.
abbrev pub WholeGroupsAreOne : Type 0
WholeGroupsAreOne = (s : Scenario) (one other : List ℕ) (a : ℕ) → IsWholeGroup s one → IsWholeGroup s other → Contains one a → Contains other a → one ≡ other
