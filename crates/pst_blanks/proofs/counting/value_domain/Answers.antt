use Rattle.std.proofs.Common.{◌∙◌, ap}
use Rattle.std.specs.Prelude.{slice_get}
use Rattle.std.proofs.lemmas.Option.{IfSome_then}
use Rattle.pst_model.specs.ModelView.{view_model}
use Rattle.pst_legal.specs.Blanks.{domain_in}
use Rattle.pst_blanks.specs.Blanks.{read_blank}
use Rattle.pst_blanks.specs.Fields.{fields_in}
use Rattle.pst_blanks.proofs.Domains.{field_domain}
use Rattle.pst_blanks.proofs.counting.value_domain.Goals as goal

pub returns : goal.returns
returns c =
    let m = view_model c.args.model.now in
    let b = read_blank c.args.blank in
    IfSome_then c.domain_at.result c.domain_at.ensures
    (λ d e.
    field_domain m c.args.acts.now b d.now c.requires
    (e ∙ ap (λ fs. domain_in (slice_get fs c.number.result)) c.fields.ensures ∙ ap (λ n. domain_in (slice_get (fields_in m c.args.acts.now b) n)) c.number.ensures))
