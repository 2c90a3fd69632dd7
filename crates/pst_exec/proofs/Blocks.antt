-- The blocks that the core makes of commands.
use Rattle.std.proofs.Common.{ℕ, List, [], ◌∷◌, ◌++◌, refl, ap, sym, subst}
use Rattle.pst_scen.specs.declared.event.Event.{Event}
use Rattle.pst_scen.specs.declared.event.Event.TheVariants.{End}
use Rattle.pst_scen.specs.declared.scenario.Scenario.{Scenario}
use Rattle.pst_scen.specs.Trace.{Runs, Starts, Ends, starts_of}
use Rattle.pst_scen.specs.Core.{Command, Opens, Step, Opened, Shut, Closed, Idle, Makes, Done, Then}
use Rattle.pst_order.specs.Rule.{IsByCore}
use Rattle.pst_order.specs.Laws.{CoreIsByRule}
use Rattle.pst_exec.specs.Laws.{CoreMakesBlocks, CommandsMakeByRule}

module _ (s : Scenario) (lanes : ℕ) where
  -- a step makes one block more, or none
  step_blocks : (t u : List Event) (c : Command) → IsByCore s lanes t → Step s lanes t c u → IsByCore s lanes u
  step_blocks t _ _ by (Opened members used opens) = record {
    blocks = Starts members used ∷ by.blocks;
    are = ap (λ (es : List Event). es ++ starts_of members used) by.are;
    core = (by.core, subst (λ (es : List Event). Opens s lanes es members used) (sym by.are) opens);
  }
  step_blocks t _ _ by (Shut none) = by
  step_blocks t _ _ by (Closed a runs) = record {
    blocks = Ends a ∷ by.blocks;
    are = ap (λ (es : List Event). es ++ End a ∷ []) by.are;
    core = (by.core, subst (λ (es : List Event). Runs es a) (sym by.are) runs);
  }
  step_blocks t _ _ by (Idle a none) = by

  makes_blocks : (t u : List Event) (cs : List Command) → IsByCore s lanes t → Makes s lanes t cs u → IsByCore s lanes u
  makes_blocks t _ _ by (Done _) = by
  makes_blocks t u _ by (Then _ middle _ c more step rest) = makes_blocks middle u more (step_blocks t middle c by step) rest

pub core_blocks : CoreMakesBlocks
core_blocks s lanes commands trace core = makes_blocks s lanes [] trace commands (record { blocks = []; are = refl; core = tt }) core

pub core_rule : CoreIsByRule → CommandsMakeByRule
core_rule law s lanes commands trace core = law s lanes trace (core_blocks s lanes commands trace core)
