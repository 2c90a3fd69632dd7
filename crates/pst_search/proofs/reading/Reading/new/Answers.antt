use Rattle.std.proofs.Common.{sym, subst}
use Rattle.pst_search.specs.Made.{IsGround}
use Rattle.pst_search.proofs.reading.Reading.new.Goals as goal

pub invariant_of-result : goal.invariant_of-result
invariant_of-result c = record { ground = subst IsGround (sym c.in_ok-lists.ensures) (record { sound = c.requires.sound; concrete = c.requires.concrete }); tied = tt; planned = tt }
