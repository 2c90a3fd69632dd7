use Rattle.std.proofs.Common.{◌++◌, List, ap, ◌∙◌}
use Rattle.std.specs.Prelude.{ℤ, pos, Option, Some}
use Rattle.std.specs.List.{flat_map}
use Rattle.pst_base.specs.declared.position.Place.{Place}
use Rattle.pst_type_rules.specs.Enums.{enums}
use Rattle.pst_site_lists.specs.Sited.{view_enum_site}
use Rattle.pst_terms.specs.Sources.{item_values}
use Rattle.pst_sources.specs.Shown.{sources_of}
use Rattle.pst_sources.proofs.Itemed.{all_values}
use Rattle.pst_sources.proofs.items.list_values.Goals as goal

pub returns : goal.returns
returns c =
    let s = sources_of c.args.known.now in
    c.in_ok-add_enums.ensures
    ∙ ap (λ (xs : List (Place × Option ℤ)). xs ++ flat_map (λ e. item_values s (Some (pos 0)) (view_enum_site e).items) c.enums.result.now) c.new-found.ensures.items
    ∙ all_values s c.enums.result.now (c.enums.ensures ∙ ap enums c.sites.ensures)
