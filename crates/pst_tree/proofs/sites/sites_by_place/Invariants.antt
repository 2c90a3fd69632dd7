use Rattle.std.proofs.Common.{◌≡◌, drop}
use Rattle.std.specs.List.{find}
use Rattle.std.specs.Option.{option_or}
use Rattle.std.specs.HashMap.{get}
use Rattle.pst_tree.specs.declared.key.PlaceKey.{PlaceKey}
use Rattle.pst_tree.specs.Members.{same_key}
use Rattle.pst_tree.specs.InheritedFound.{is_site_at}
use Rattle.pst_tree.proofs.sites.sites_by_place.Given as goal

abbrev pub invariant-loop-site : goal.invariant-loop-site
invariant-loop-site l = (q : PlaceKey) → option_or (get same_key l.sites q) (find (is_site_at q) (drop l.site-index l.found)) ≡ find (is_site_at q) l.found
