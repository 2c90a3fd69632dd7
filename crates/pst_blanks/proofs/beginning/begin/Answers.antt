use Rattle.std.proofs.Common.{◌≡◌, ◌&&◌, List, map, length, ap, sym, subst, ◌∙◌}
use Rattle.std.specs.List.{list_any}
use Rattle.pst_model.specs.ModelTree.{ModelTree}
use Rattle.pst_model.specs.ModelView.{view_model}
use Rattle.pst_scen.specs.declared.act.Act.{Act}
use Rattle.pst_scen.specs.declared.scenario.First.{First}
use Rattle.pst_legal.specs.Types.{is_state_pool}
use Rattle.pst_legal.specs.Blanks.{refers_to, used_state_pools}
use Rattle.pst_legal.specs.ValueReading.{with_firsts, empty_first}
use Rattle.pst_blanks.specs.Blanks.{blank_of, listed}
use Rattle.pst_blanks.specs.Placed.{ArePlaced, Rise, pools_of}
use Rattle.pst_blanks.proofs.Listed.{blanks_listed, placed_listed}
use Rattle.pst_blanks.proofs.Firsts.{rise_range, empty_pools}
use Rattle.pst_blanks.proofs.beginning.begin.Goals as goal

used_rise : (m : ModelTree) (acts : List Act) (firsts : List First) → firsts ≡ map empty_first (used_state_pools m acts) → Rise 0 (pools_of firsts)
used_rise m acts firsts e =
    subst (Rise 0) (sym (ap pools_of e ∙ empty_pools (used_state_pools m acts))) (rise_range (λ pool. is_state_pool m pool && list_any (refers_to pool) acts) 0 (length m.pools))

pub returns-clause-blanks : goal.returns-clause-blanks
returns-clause-blanks c =
    let m = view_model c.args.model.now in
    ap (map blank_of) (c.in_ok-places.ensures ∙ ap (listed m) c.as_slice-2.ensures) ∙ blanks_listed m c.args.scenario.now.actions

pub returns-clause-placed : goal.returns-clause-placed
returns-clause-placed c =
    let m = view_model c.args.model.now in
    let s = c.args.scenario.now in
    let places = c.in_ok-places.places.items in
    let all : places ≡ listed m s.actions = c.in_ok-places.ensures ∙ ap (listed m) c.as_slice-2.ensures in
    let firsts : c.in_ok-scenario.field-0 ≡ map empty_first (used_state_pools m s.actions) =
    c.in_ok-scenario.ensures ∙ ap (map empty_first) (c.deref-2.ensures.value ∙ c.in_ok-pools.ensures ∙ ap (used_state_pools m) c.as_slice.ensures) in
    subst (λ (l : List First). ArePlaced m (record s { firsts = l }) places) (sym firsts) (subst (ArePlaced m (with_firsts m s)) (sym all) (placed_listed m s))

pub returns-clause-rising : goal.returns-clause-rising
returns-clause-rising c =
    let m = view_model c.args.model.now in
    used_rise m c.args.scenario.now.actions c.in_ok-scenario.field-0 (c.in_ok-scenario.ensures ∙ ap (map empty_first) (c.deref-2.ensures.value ∙ c.in_ok-pools.ensures ∙ ap (used_state_pools m) c.as_slice.ensures))
