use Rattle.std.proofs.Common.{◌≤◌, arith}
use Rattle.std.proofs.lemmas.Bool.Decides.{nat_tests}
use Rattle.pst_square.proofs.circle.leads_lower.Goals as goal

pub returns-then-a-least : goal.returns-then-a-least
returns-then-a-least c = λ is.
    let rank = c.rank_of-rank.ensures in
    record {
      no_higher = λ b b_in has. let less = c.leads_below.ensures is b b_in has in omega (arith, less, rank);
      lower = λ b a_low b_in has. let less = c.leads_below.ensures is b b_in has in omega (arith, less, rank);
    }

pub returns : goal.returns
returns c = λ is.
    let rank = c.rank_of-rank.ensures in
    let high : c.args.least ≤ c.args.a = grind (arith, nat_tests, c.if-a-least.false) in
    record {
      no_higher = λ b b_in has. let less = c.leads_below-2.ensures is b b_in has in omega (arith, less, rank);
      lower = λ b a_low b_in has. absurd (omega (arith, a_low, high));
    }
