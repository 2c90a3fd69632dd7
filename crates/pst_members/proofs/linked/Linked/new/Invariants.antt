use Rattle.std.proofs.Common.{take}
use Rattle.std.specs.HashMap.{get}
use Rattle.pst_members.specs.Keys.{same_key}
use Rattle.pst_members.specs.Links.{IsLinked}
use Rattle.pst_members.proofs.linked.Linked.new.Given as goal

abbrev pub invariant-loop-declaration : goal.invariant-loop-declaration
invariant-loop-declaration l = IsLinked (take l.declaration-index l.declarations) (get same_key l.linked.last) l.linked.before.items
