use Rattle.std.proofs.Common.{◌≡◌, ◌∙◌, List, length, nat_lt, true, sym, subst}
use Rattle.std.specs.List.{list_all}
use Rattle.pst_model.specs.declared.action.ActionType.{ActionType}
use Rattle.pst_scen.specs.declared.act.Act.{Act}
use Rattle.pst_tests_bodies.proofs.Typed.{typed}
use Rattle.pst_tests_bodies.proofs.running.has_types.Goals as goal

pub returns : goal.returns
returns c = λ yes_it.
    typed c.args.model.now.actions.items c.args.scenario.now.actions
    (subst (λ (l : List Act). list_all (λ act. nat_lt act.action (length c.args.model.now.actions.items)) l ≡ true) c.as_slice-acts.ensures
    (subst (λ (types : List ActionType). list_all (λ act. nat_lt act.action (length types)) c.as_slice-acts.result.now ≡ true) c.as_slice-types.ensures.value (sym c.are_below.ensures ∙ yes_it)))
