use Rattle.std.proofs.Common.{ℕ, sym, subst}
use Rattle.pst_model.specs.ModelView.{view_model}
use Rattle.pst_scenario_answers.specs.declared.check.CheckAnswer.TheVariants.{BadTrace}
use Rattle.pst_scenario_answers.specs.Checked.{IsChecked}
use Rattle.pst_scenario_answers.proofs.Answering.{no_trace, judged}
use Rattle.pst_scenario_answers.proofs.check.checked.Goals as goal

pub returns-in_ok-verdict-in-Ok : goal.returns-in_ok-verdict-in-Ok
returns-in_ok-verdict-in-Ok c =
    judged c.args.names.now (view_model c.args.model.now) c.args.scenario.now c.args.text.now c.in-Ok.trace c.in_ok-verdict-in-Ok.verdict c.answer_of.result c.in-Ok.ensures c.in_ok-verdict-in-Ok.ensures c.answer_of.ensures

pub returns-in-Err-Bad : goal.returns-in-Err-Bad
returns-in-Err-Bad c =
    subst (λ (n : ℕ). IsChecked c.args.names.now (view_model c.args.model.now) c.args.scenario.now c.args.text.now (BadTrace n)) (sym c.in-Err-Bad.line-is)
    (no_trace c.args.names.now (view_model c.args.model.now) c.args.scenario.now c.args.text.now c.in-Err-Bad.field-0 c.in-Err-Bad.line c.in-Err-Bad.field-0-is c.in-Err-Bad.ensures)
