use Rattle.std.proofs.Common.{◌∙◌, ap, sym, nat_lt, if◌then◌else◌}
use Rattle.pst_model.specs.ModelView.{view_model}
use Rattle.pst_scen.specs.declared.next.Next.TheVariants as next
use Rattle.pst_value_walk.specs.Choices.{shown_by}
use Rattle.pst_value_walk.proofs.Steps.{got_blank, no_blank}
use Rattle.pst_value_walk.proofs.walk.next_at.Goals as goal

pub options-requires : goal.options-requires
options-requires c = c.requires c.args.made c.in-Some.place (sym c.place_at.ensures ∙ c.in-Some.is)

pub returns-in-None : goal.returns-in-None
returns-in-None c = sym (ap (shown_by (view_model c.args.model.now) c.args.scenario.now) (no_blank c.args.places.now c.args.made (sym c.place_at.ensures ∙ c.in-None.is)))

pub returns-in-Some : goal.returns-in-Some
returns-in-Some c =
    c.shown.ensures
    ∙ ap (λ n. if nat_lt 0 n then next.Options n else next.Dead) c.options.ensures
    ∙ sym (ap (shown_by (view_model c.args.model.now) c.args.scenario.now) (got_blank c.args.places.now c.args.made c.in-Some.place (sym c.place_at.ensures ∙ c.in-Some.is)))
