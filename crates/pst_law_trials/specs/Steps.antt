-- Steps of a search that pass a legal scenario, each for want of one premise.
use Rattle.std.specs.Prelude.{◌≡◌, [], ◌∷◌, Some}
use Rattle.pst_scen.specs.declared.tree.Fill.TheVariants as fill
use Rattle.pst_scen.specs.declared.act.Flow.TheVariants.{StateIn}
use Rattle.pst_scen.specs.declared.act.Link.TheVariants as link
use Rattle.pst_scen.specs.declared.scenario.Scenario.{Scenario}
use Rattle.pst_legal.specs.First.{ReadsLegal, NoneBefore}
use Rattle.pst_legal.specs.ValueReading.{Options, read}
use Rattle.pst_built.specs.OrderStaysLaws.{IsBarren}
use Rattle.pst_list_order.specs.Passed.{NonePassed}
use Rattle.pst_trials.specs.Parts.{act_of, filled, root_node, node, scenario_of}
use Rattle.pst_trials.specs.Inference.{model as inferring, scenario as inferred}
use Rattle.pst_trials.specs.States.{one, filling, choices}

-- the reader, whose source isn't read yet
abbrev pub no_source : Scenario
no_source = scenario_of 1 (root_node 2 [] ∷ node 0 (fill.Leaf 0) ∷ []) (act_of 1 (Some 1) (filled StateIn [] link.Nothing ∷ []) ∷ []) []

pub record StepsAreTried : Type 0 where
  -- behind this list is nothing legal, but before it is: the search goes neither down from it nor over it
  pub dead_end : IsBarren inferring 2 1 1 (1 ∷ [])
  pub not_down_behind : NoneBefore inferring 2 1 1 (1 ∷ 0 ∷ []) → ⊥
  pub not_over_behind : NonePassed inferring 2 1 1 (1 ∷ []) → ⊥
  -- nor on to it from a choice that isn't passed
  pub not_next : NoneBefore inferring 2 1 1 (1 ∷ []) → ⊥
  -- of a place with two options the first is passed, and the second leads to a legal scenario: it doesn't go up
  pub two_options : read one 2 1 1 (0 ∷ 0 ∷ []) ≡ Options no_source 2
  pub first_passed : NonePassed one 2 1 1 (0 ∷ 0 ∷ 0 ∷ [])
  pub second_reads : ReadsLegal one 2 1 1 choices filling
  pub not_up : NonePassed one 2 1 1 (0 ∷ 0 ∷ []) → ⊥
  -- a level that is passed says nothing of the next
  pub level_passed : NonePassed inferring 2 1 0 []
  pub next_reads : ReadsLegal inferring 2 1 1 (0 ∷ 0 ∷ 0 ∷ []) inferred
