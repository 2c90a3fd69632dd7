use Rattle.std.proofs.Common.{All}
use Rattle.pst_rival_blanks.specs.Pairs.{IsPairOf}
use Rattle.pst_rival_blanks.proofs.pairs.pair.Given as goal

abbrev pub invariant-loop-earlier : goal.invariant-loop-earlier
invariant-loop-earlier l = All (IsPairOf l.listing.scenario.now l.listing.claims.now) l.initial.pairs.items → All (IsPairOf l.listing.scenario.now l.listing.claims.now) l.pairs.items
