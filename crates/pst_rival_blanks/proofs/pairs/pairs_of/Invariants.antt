use Rattle.std.proofs.Common.{All}
use Rattle.pst_rival_blanks.specs.Pairs.{IsPairOf}
use Rattle.pst_rival_blanks.proofs.pairs.pairs_of.Given as goal

abbrev pub invariant-loop-later : goal.invariant-loop-later
invariant-loop-later l = All (IsPairOf l.listing.scenario.now l.listing.claims.now) l.pairs.items
