use Rattle.std.proofs.Common.{◌≡◌, ◌++◌, drop, map}
use Rattle.pst_field_domains.proofs.table.places_of.Given as goal

abbrev pub invariant-loop-site : goal.invariant-loop-site
invariant-loop-site l = l.places.items ++ map (λ e. e.node.now.name.place) (drop l.site-index l.enums) ≡ map (λ e. e.node.now.name.place) l.enums
