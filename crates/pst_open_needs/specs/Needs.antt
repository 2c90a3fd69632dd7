-- Needs that no action serves where no further one may be inferred.
use Rattle.std.specs.Prelude.{◌≡◌, ◌≤◌, ℕ, List, Bool, true, false, not, ◌&&◌, count_by}
use Rattle.std.specs.List.{list_any}
use Rattle.std.specs.Option.{is_none}
use Rattle.pst_model.specs.ModelTree.{ModelTree}
use Rattle.pst_scen.specs.declared.act.Act.{Act}
use Rattle.pst_scen.specs.declared.act.Filled.{Filled}
use Rattle.pst_scen.specs.declared.act.Flow.{Flow}
use Rattle.pst_scen.specs.declared.act.Flow.TheVariants.{BufferIn, BufferOut, StreamIn, StreamOut, StateIn, StateOut}
use Rattle.pst_scen.specs.declared.act.Link.{Link}
use Rattle.pst_scen.specs.declared.act.Link.TheVariants as link
use Rattle.pst_scen.specs.declared.scenario.Scenario.{Scenario}
use Rattle.pst_legal.specs.SupplyReading.{fits}
use Rattle.pst_legal.specs.ValueReading.{read}
use Rattle.pst_built.specs.SoFar.{HasRead}
use Rattle.pst_built.specs.OrderStaysLaws.{IsBarren}
use Rattle.pst_order_ahead.specs.LaidOut.{ReadsTree}

-- a need whose source is a reference of another action in every scenario: a state may also be the first one of its pool
abbrev pub needs_another : Flow → Bool
needs_another BufferIn = true
needs_another BufferOut = false
needs_another StreamIn = true
needs_another StreamOut = true
needs_another StateIn = false
needs_another StateOut = false

-- the source isn't read
abbrev pub is_open : Link → Bool
is_open link.Nothing = true
is_open link.Initial = false
is_open (link.Act a r) = false

-- a reference of the action fits the need
abbrev pub serves : Filled → Act → Bool
serves need act = list_any (fits need) act.references

abbrev pub is_served : List Act → Filled → Bool
is_served acts need = list_any (serves need) acts

abbrev pub is_unserved : List Act → Filled → Bool
is_unserved acts need = needs_another need.flow && (is_open need.link && not (is_served acts need))

-- some need of the action isn't linked, and no reference fits it
abbrev pub lacks_source : List Act → Act → Bool
lacks_source acts act = list_any (is_unserved acts) act.references

-- as many actions are inferred as the level says, and some need can't be served by those that there are
pub record IsLacking (s : Scenario) : Type 0 where
  pub full : s.level ≤ count_by (λ act. is_none act.node) s.actions
  pub lacks : list_any (lacks_source s.actions) s.actions ≡ true

-- Then no longer list reads a legal scenario.
abbrev pub UnservedNeedsRefuseLists : Type 0
UnservedNeedsRefuseLists =
    (m : ModelTree) (root seed level : ℕ) (choices : List ℕ) (s : Scenario) → ReadsTree m root seed level choices → HasRead (read m root seed level choices) s → IsLacking s
    → IsBarren m root seed level choices
