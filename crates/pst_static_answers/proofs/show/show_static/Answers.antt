use Rattle.std.proofs.Common.{◌∙◌, ℕ, List, string_bytes, ap, subst, sym, arith}
use Rattle.pst_model.specs.ModelView.{view_model}
use Rattle.pst_scen.specs.Plan.{widest}
use Rattle.pst_static_answers.specs.declared.answer.StaticAnswer.TheVariants.{Narrow}
use Rattle.pst_static_answers.specs.Shown.{ShowsStatic, IsTooWide, narrow_text}
use Rattle.pst_static_answers.proofs.show.show_static.Goals as goal

pub returns : goal.returns
returns c =
    let names = c.args.names.now in
    let model = view_model c.args.model.now in
    let s = c.args.scenario.now in
    let p = c.args.plan.now in
    let over = c.args.over in
    let e = c.width-need.ensures in
    let wide = c.if-need-over.false in
    subst (λ k. ShowsStatic names model s p over (Narrow k over) (string_bytes c.in_ok-text.text)) (sym e)
    (subst (λ (v : List ℕ). ShowsStatic names model s p over (Narrow (widest p.groups) over) v) (sym (c.in_ok-text.ensures ∙ ap (λ k. narrow_text k over) e)) (IsTooWide (omega (arith, e, wide))))
