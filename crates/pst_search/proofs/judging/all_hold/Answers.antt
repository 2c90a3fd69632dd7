use Rattle.std.proofs.Common.{refl, sym, subst, Bool, true, false}
use Rattle.std.specs.Prelude.{not}
use Rattle.pst_model.specs.ModelTree.{ModelTree}
use Rattle.pst_model.specs.ModelView.{view_model}
use Rattle.pst_scen.specs.declared.scenario.Scenario.{Scenario}
use Rattle.pst_refusals.specs.Answers.{StandEarlier, TellsUnmet}
use Rattle.pst_list_walk.proofs.Seen.{same_scenario}
use Rattle.pst_search.specs.Judging.{TellsHolding}
use Rattle.pst_search.proofs.judging.all_hold.Goals as goal

holding : (m : ModelTree) (s : Scenario) (b : Bool) → TellsUnmet m s b → TellsHolding m s (not b)
holding m s true told = told
holding m s false told = told

pub invariant_of-scene : goal.invariant_of-scene
invariant_of-scene c = record { earlier = subst StandEarlier (sym c.as_slice-nodes.ensures) c.requires.earlier }

pub returns : goal.returns
returns c =
    let m = view_model c.args.model.now in
    let s = c.args.scenario.now in
    let same = same_scenario s s.level c.as_slice-nodes.result.now c.as_slice-actions.result.now c.as_slice-firsts.result.now refl c.as_slice-nodes.ensures c.as_slice-actions.ensures c.as_slice-firsts.ensures in
    holding m s c.in_ok-unmet.unmet (subst (λ t. TellsUnmet m t c.in_ok-unmet.unmet) same c.in_ok-unmet.ensures)
