use Rattle.std.proofs.Common.{◌≡◌, ◌++◌, drop}
use Rattle.std.specs.HashMap.{get}
use Rattle.std.specs.List.{filter}
use Rattle.pst_declaration_rules.specs.Grouped.{has_key, items_at, same_key}
use Rattle.pst_declaration_rules.specs.declared.grouped.PlaceKey.{PlaceKey}
use Rattle.pst_declaration_rules.proofs.grouped.grouped.Given as goal

abbrev pub invariant-loop-member : goal.invariant-loop-member
invariant-loop-member l = (q : PlaceKey) → items_at (get same_key l.groups q) ++ filter (has_key l.by q) (drop l.member-index l.members) ≡ filter (has_key l.by q) l.members
