use Rattle.std.proofs.Common.{◌≡◌, ◌++◌, drop}
use Rattle.std.specs.HashMap.{get}
use Rattle.pst_tree.specs.declared.key.PlaceKey.{PlaceKey}
use Rattle.pst_tree.specs.Members.{members_at, place_of, row_in, same_key}
use Rattle.pst_tree.proofs.rows.Rows.new.Given as goal

abbrev pub invariant-loop-declaration : goal.invariant-loop-declaration
invariant-loop-declaration l = (q : PlaceKey) → row_in (get same_key l.rows q) ++ members_at l.by (drop l.declaration-index l.declarations) (place_of q) ≡ members_at l.by l.declarations (place_of q)
