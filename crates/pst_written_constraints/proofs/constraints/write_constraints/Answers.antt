use Rattle.std.proofs.Common.{◌≡◌, map, All, sym, subst, ap, ◌∙◌}
use Rattle.std.proofs.lemmas.Result.{IfOk-weaker}
use Rattle.pst_expr.specs.Tree.{view}
use Rattle.pst_model.specs.ModelView.{view_model}
use Rattle.pst_scen.specs.declared.scenario.Scenario.{Scenario}
use Rattle.pst_blanks.specs.Blanks.{blank_of}
use Rattle.pst_blank_values.specs.Values.{AreBare}
use Rattle.pst_constraint_sites.specs.Laws.{HasFirstObjects}
use Rattle.pst_few_places.specs.Fillings.{all_blanks}
use Rattle.pst_refusals.specs.Answers.{StandEarlier}
use Rattle.pst_written_constraints.specs.Spans.{blank_bound}
use Rattle.pst_written_constraints.specs.Open.{IsAllWritten}
use Rattle.pst_written_constraints.proofs.Opens.{open_all}
use Rattle.pst_written_constraints.specs.Written.{IsImplied}
use Rattle.pst_written_constraints.proofs.Sites.{has_firsts, all_written}
use Rattle.pst_written_constraints.proofs.Hulls.{hold}
use Rattle.pst_written_constraints.proofs.constraints.write_constraints.Goals as goal

pub write_all-requires-clause-firsts : goal.write_all-requires-clause-firsts
write_all-requires-clause-firsts c = subst (HasFirstObjects (view_model c.args.model.now)) (sym c.in_ok-places.ensures.begun) (has_firsts (view_model c.args.model.now) c.args.linked)

pub write_all-requires-clause-earlier : goal.write_all-requires-clause-earlier
write_all-requires-clause-earlier c = subst (λ (s : Scenario). StandEarlier s.nodes) (sym c.in_ok-places.ensures.begun) c.requires.earlier

pub returns-clause-written : goal.returns-clause-written
returns-clause-written c =
    let m = view_model c.args.model.now in
    let u = c.args.linked in
    let bare : AreBare u.actions = subst AreBare (c.as_slice.ensures ∙ ap (λ (s : Scenario). s.actions) c.in_ok-places.ensures.begun) (c.are_bare.ensures c.if-not-are_bare.false) in
    IfOk-weaker c.write_all.result _ _
    (λ w all. all_written c.filled_blanks_stand.ensures m u (map view w.constraints.items) bare (subst (λ (s : Scenario). All (IsImplied m s) (map view w.constraints.items)) c.in_ok-places.ensures.begun all))
    c.write_all.ensures.implied

pub returns-clause-spans : goal.returns-clause-spans
returns-clause-spans c =
    let m = view_model c.args.model.now in
    let u = c.args.linked in
    let bare : AreBare u.actions = subst AreBare (c.as_slice.ensures ∙ ap (λ (s : Scenario). s.actions) c.in_ok-places.ensures.begun) (c.are_bare.ensures c.if-not-are_bare.false) in
    IfOk-weaker c.write_all.result _ _
    (λ w is. hold c.domains_list_values.ensures m c.requires.sound u bare w.spans.items
    (is
    ∙ ap (λ xs. map (blank_bound m c.begin.new.scenario) (map blank_of xs)) c.as_slice-2.ensures.value
    ∙ ap (λ bs. map (blank_bound m c.begin.new.scenario) bs) c.in_ok-places.ensures.blanks
    ∙ ap (λ (s : Scenario). map (blank_bound m s) (all_blanks m u)) c.in_ok-places.ensures.begun))
    c.write_all.ensures.spans

pub returns-clause-together : goal.returns-clause-together
returns-clause-together c =
    let m = view_model c.args.model.now in
    let u = c.args.linked in
    let bare : AreBare u.actions = subst AreBare (c.as_slice.ensures ∙ ap (λ (s : Scenario). s.actions) c.in_ok-places.ensures.begun) (c.are_bare.ensures c.if-not-are_bare.false) in
    let blanks : map blank_of c.as_slice-2.result.now ≡ all_blanks m u = ap (map blank_of) c.as_slice-2.ensures.value ∙ c.in_ok-places.ensures.blanks in
    IfOk-weaker c.write_all.result _ _
    (λ w all yes. open_all c.filled_blanks_stand.ensures c.constraints_are_grouped.ensures c.spans_are_sane.ensures m u (map view w.constraints.items) bare
    (subst (λ (s : Scenario). IsAllWritten m s (all_blanks m u) (map view w.constraints.items)) c.in_ok-places.ensures.begun
    (subst (λ bs. IsAllWritten m c.begin.new.scenario bs (map view w.constraints.items)) blanks (all yes))))
    c.write_all.ensures.all
