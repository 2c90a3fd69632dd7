use Rattle.std.proofs.Common.{ℕ, subst, arith, rules}
use Rattle.pst_name_rules.specs.Leasts.{IsLeastOf}
use Rattle.pst_handle_rules.specs.Twice.{IsTwiceBefore}
use Rattle.pst_handle_rules.proofs.Bound.{next_least}
use Rattle.pst_handle_rules.proofs.twice.twice_in.Goals as goal

pub loop-at-preserved : goal.loop-at-preserved
loop-at-preserved c = record {
  inputs = search rules;
  outputs = search rules;
  least = next_least c.places_are_ordered.ensures.on c.args.ties.now c.loop-at.at c.loop-at.least c.finding_at.result c.earlier-least.result c.loop-at.invariant.least c.finding_at.ensures c.earlier-least.ensures;
}

pub returns : goal.returns
returns c = subst (λ (n : ℕ). IsLeastOf (IsTwiceBefore c.args.ties.now n) c.loop-at.least) (omega arith) c.loop-at.invariant.least
