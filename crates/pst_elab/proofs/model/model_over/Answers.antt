use Rattle.std.proofs.Common.{List, map, ap, sym, ◌∙◌}
use Rattle.pst_ast.specs.DeclarationView.{view_unit}
use Rattle.pst_ast.specs.declared.instance.Instance.{Instance}
use Rattle.pst_bind.specs.Needs.{served}
use Rattle.pst_sources.specs.Shown.{sources_of, with_constants}
use Rattle.pst_terms.specs.Sources.{Sources}
use Rattle.pst_elab.proofs.Elaborating.{is_model, places_are}
use Rattle.pst_elab.proofs.model.model_over.Goals as goal

pub model_from-requires-clause-domains : goal.model_from-requires-clause-domains
model_from-requires-clause-domains c =
    places_are (sources_of c.in_ok-sources.sources) (with_constants (map view_unit c.args.sites.now) c.args.names.now c.as_slice-constants.result.now) c.args.domains.now c.requires.domains
    c.in_ok-sources.ensures

pub model_from-requires-clause-served : goal.model_from-requires-clause-served
model_from-requires-clause-served c =
    c.as_slice-served.ensures ∙ c.requires.pooled.are_served
    ∙ ap (λ (s : Sources). served s.units c.args.judged.now.tree.instances) (sym c.in_ok-sources.ensures)
    ∙ ap (λ (l : List Instance). served (sources_of c.in_ok-sources.sources).units l) (sym c.as_slice-instances.ensures)

pub returns : goal.returns
returns c =
    is_model (map view_unit c.args.sites.now) c.args.names.now (sources_of c.in_ok-sources.sources) c.args.judged.now.typed.constants c.args.judged.now.tree.instances c.as_slice-instances.result.now c.args.domains.now _
    c.requires.constants c.requires.instances c.requires.domains
    (c.in_ok-sources.ensures ∙ ap (with_constants (map view_unit c.args.sites.now) c.args.names.now) c.as_slice-constants.ensures)
    c.as_slice-instances.ensures c.in_ok-model.ensures
