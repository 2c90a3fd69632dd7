use Rattle.std.proofs.Common.{take}
use Rattle.std.specs.HashMap.{get}
use Rattle.pst_numbers.specs.NumberKeys.{same_member_key, same_place_key}
use Rattle.pst_numbers.specs.Ranked.{IsRanked}
use Rattle.pst_numbers.proofs.ranking.ranks.Given as goal

abbrev pub invariant-loop-declaration : goal.invariant-loop-declaration
invariant-loop-declaration l = IsRanked (take l.declaration-index l.declarations) (get same_place_key l.counts) (get same_member_key l.ranks)
