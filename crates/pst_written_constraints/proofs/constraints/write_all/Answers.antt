use Rattle.std.proofs.Common.{◌≡◌, map, sym, subst}
use Rattle.std.proofs.lemmas.Result.{IfOk-weaker}
use Rattle.pst_expr.specs.Tree.{view}
use Rattle.pst_model.specs.ModelView.{view_model}
use Rattle.pst_scen.specs.declared.scenario.Scenario.{Scenario}
use Rattle.pst_blanks.specs.Blanks.{blank_of}
use Rattle.pst_refusals.specs.Answers.{StandEarlier}
use Rattle.pst_written_constraints.specs.Open.{IsAllWritten}
use Rattle.pst_written_constraints.proofs.constraints.write_all.Goals as goal

pub invariant_of-scene : goal.invariant_of-scene
invariant_of-scene c = record { earlier = subst StandEarlier (sym c.as_slice.ensures) c.requires.earlier }

pub returns-clause-all : goal.returns-clause-all
returns-clause-all c =
    let s = c.args.scenario.now in
    let seen : Scenario = record { level = s.level; nodes = c.as_slice.result.now; actions = c.as_slice-2.result.now; firsts = c.as_slice-3.result.now } in
    let same : seen ≡ s = λ i. record { level = s.level; nodes = c.as_slice.ensures i; actions = c.as_slice-2.ensures i; firsts = c.as_slice-3.ensures i } in
    IfOk-weaker c.write_groups.result _ _
    (λ w all yes. subst (λ (x : Scenario). IsAllWritten (view_model c.args.model.now) x (map blank_of c.args.places.now) (map view w.constraints.items)) same (all yes))
    c.write_groups.ensures.all
