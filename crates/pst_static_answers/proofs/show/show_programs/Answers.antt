use Rattle.std.proofs.Common.{◌∙◌, ℕ, List, string_bytes, ap, subst, sym}
use Rattle.pst_model.specs.ModelView.{view_model}
use Rattle.pst_programs.specs.declared.program.Program.{Program}
use Rattle.pst_programs.specs.Laws.{instructions}
use Rattle.pst_static_answers.specs.declared.answer.StaticAnswer.TheVariants.{Static}
use Rattle.pst_static_answers.specs.Shown.{ShowsStatic, ArePrinted, static_text}
use Rattle.pst_static_answers.proofs.show.show_programs.Goals as goal

pub returns : goal.returns
returns c =
    let names = c.args.names.now in
    let model = view_model c.args.model.now in
    let s = c.args.scenario.now in
    let p = c.args.plan.now in
    let over = c.args.over in
    let programs = c.in_ok-programs.programs.items in
    subst (λ k. ShowsStatic names model s p over (Static k) (string_bytes c.in_ok-text.text)) (sym (c.in_ok-instructions.ensures ∙ ap (λ (v : List Program). instructions v) c.deref.ensures.value))
    (subst (λ (v : List ℕ). ShowsStatic names model s p over (Static (instructions programs)) v) (sym (c.in_ok-text.ensures ∙ ap (λ (v : List Program). static_text names model s v) c.deref-2.ensures.value))
    (ArePrinted programs c.requires.wide c.in_ok-programs.ensures))
