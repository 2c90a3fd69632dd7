use Rattle.std.proofs.Common.{◌≡◌, ◌∙◌, ◌++◌, ℕ, sym, ap}
use Rattle.std.specs.Prelude.{Some}
use Rattle.std.specs.Option.{option_to_list}
use Rattle.pst_lanes.specs.Lanes.{ends_on}
use Rattle.pst_lanes.proofs.Laned.{laned_trace, runs_alone, same_running}
use Rattle.pst_lanes.proofs.lanes_run_one.Goals as goal

some_same : (x y : ℕ) → Some x ≡ Some y → x ≡ y
some_same x y e = cc

pub returns : goal.returns
returns c = record {
  one = λ s lanes t legal a b lane on going other going_too.
      let was = (laned_trace s lanes t legal).lanes lane in
      some_same a b (sym (runs_alone t lane was.running was.starts a on going) ∙ runs_alone t lane was.running was.starts b other going_too);
  starts = λ s lanes t legal lane o runs.
      let was = (laned_trace s lanes t legal).lanes lane in
      was.starts ∙ ap (λ v. ends_on lane t ++ option_to_list v) (same_running t lane was o runs);
}
