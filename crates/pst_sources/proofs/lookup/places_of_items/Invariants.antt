use Rattle.std.proofs.Common.{◌≡◌, ◌++◌, drop, map}
use Rattle.std.specs.Prelude.{ℤ, Option}
use Rattle.pst_base.specs.declared.position.Place.{Place}
use Rattle.pst_sources.proofs.lookup.places_of_items.Given as goal

abbrev pub invariant-loop-item : goal.invariant-loop-item
invariant-loop-item l = l.places.items ++ map (λ (x : Place × Option ℤ). x.0) (drop l.item-index l.items) ≡ map (λ (x : Place × Option ℤ). x.0) l.items
