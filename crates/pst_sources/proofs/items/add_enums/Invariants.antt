use Rattle.std.proofs.Common.{◌≡◌, ◌++◌, drop}
use Rattle.std.specs.Prelude.{pos, Some}
use Rattle.std.specs.List.{flat_map}
use Rattle.pst_site_lists.specs.Sited.{view_enum_site}
use Rattle.pst_terms.specs.Sources.{item_values}
use Rattle.pst_sources.specs.Shown.{sources_of}
use Rattle.pst_sources.proofs.items.add_enums.Given as goal

abbrev pub invariant-loop-site : goal.invariant-loop-site
invariant-loop-site l = l.found.items ++ flat_map (λ e. item_values (sources_of l.known) (Some (pos 0)) (view_enum_site e).items) (drop l.site-index l.enums) ≡ l.initial.found.items ++ flat_map (λ e. item_values (sources_of l.known) (Some (pos 0)) (view_enum_site e).items) l.enums
