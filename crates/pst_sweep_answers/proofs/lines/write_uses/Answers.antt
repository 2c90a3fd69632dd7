use Rattle.std.proofs.Common.{◌≡◌, ◌∙◌, ℕ, List, ◌++◌, ap, subst}
use Rattle.std.specs.Prelude.{OnOk, string_bytes}
use Rattle.pst_model.specs.declared.action.ActionType.{ActionType}
use Rattle.pst_model.specs.ModelTree.{ActionTree}
use Rattle.pst_model.specs.ModelView.{view_action}
use Rattle.pst_trace_texts.specs.Lines.{each_from}
use Rattle.pst_sweep_answers.specs.Texts.{use_text, total}
use Rattle.pst_sweep_answers.proofs.Mapped.{each_map}
use Rattle.pst_sweep_answers.proofs.lines.write_uses.Goals as goal

pub returns : goal.returns
returns c =
    let text = λ (number : ℕ) (type : ActionTree). use_text c.args.names.now type (total c.args.rows.now number) in
    subst (λ (t : List ℕ). OnOk c.write_types.result (string_bytes c.write_types.new.text ≡ string_bytes c.args.text.now ++ t))
    (ap (λ (types : List ActionType). each_from (λ number found. text number (view_action found)) 0 types) c.deref.ensures.value ∙ each_map view_action text 0 c.args.model.now.actions.items)
    c.write_types.ensures
