use Rattle.std.proofs.Common.{◌≡◌, ◌++◌, drop}
use Rattle.std.specs.List.{flat_map}
use Rattle.pst_elab_rules.specs.Spans.{domain_at}
use Rattle.pst_elab_rules.specs.Types.{elements_of}
use Rattle.pst_terms.specs.Fields.{size_of}
use Rattle.pst_type_rules.specs.Sites.{fields}
use Rattle.pst_sources.specs.Shown.{sources_of}
use Rattle.pst_model_fields.proofs.fields.add_fields.Given as goal

abbrev pub invariant-loop-field : goal.invariant-loop-field
invariant-loop-field l =
    l.found.items ++ flat_map (λ d. elements_of d.name (domain_at (fields (sources_of l.known).units) l.domains.domains d.name.place) (size_of (sources_of l.known) d)) (drop l.field-index l.declared)
    ≡ l.initial.found.items ++ flat_map (λ d. elements_of d.name (domain_at (fields (sources_of l.known).units) l.domains.domains d.name.place) (size_of (sources_of l.known) d)) l.declared
