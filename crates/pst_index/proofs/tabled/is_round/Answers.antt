use Rattle.std.proofs.Common.{◌≤◌, length, arith}
use Rattle.std.proofs.lemmas.Bool.Decides.{nat_tests}
use Rattle.pst_index.proofs.Rounds.{next_on, all_round}
use Rattle.pst_index.proofs.tabled.is_round.Goals as goal

pub loop-at-preserved : goal.loop-at-preserved
loop-at-preserved c = next_on c.args.index.now c.args.round.now c.loop-at.at c.loop-at.auto.at (c.leads_to.ensures c.if-not-leads_to.false) c.loop-at.invariant

pub returns : goal.returns
returns c = λ yes.
    let all : length c.args.round.now ≤ c.loop-at.at = grind (arith, nat_tests, c.loop-at-test.false) in
    all_round c.args.index.now c.args.round.now c.loop-at.at all (c.leads_to-2.ensures yes) c.loop-at.invariant
