use Rattle.std.proofs.Common.{◌≡◌, ◌++◌, drop}
use Rattle.std.specs.List.{filter_map}
use Rattle.pst_handle_rules.specs.Based.{base_place}
use Rattle.pst_handle_rules.proofs.based.base_places.Given as goal

abbrev pub invariant-loop-declaration : goal.invariant-loop-declaration
invariant-loop-declaration l = l.places.items ++ filter_map (base_place l.index) (drop l.declaration-index l.declaration-items) ≡ filter_map (base_place l.index) l.index
