use Rattle.std.proofs.Common.{◌≡◌, ◌++◌, drop}
use Rattle.std.specs.HashMap.{get}
use Rattle.pst_type_members.specs.declared.key.ScopeKey.{ScopeKey}
use Rattle.pst_type_members.specs.Keyed.{members_at, place_of, row_in, same_key}
use Rattle.pst_type_members.proofs.scopes.rows_of.Given as goal

abbrev pub invariant-loop-declaration : goal.invariant-loop-declaration
invariant-loop-declaration l = (q : ScopeKey) → row_in (get same_key l.rows q) ++ members_at (drop l.declaration-index l.declarations) (place_of q) ≡ members_at l.declarations (place_of q)
