use Rattle.pst_range_rules.specs.Facts.{constant_at}
use Rattle.pst_field_domains.proofs.Cuts.{all_kept}
use Rattle.pst_field_domains.proofs.types.kept.Goals as goal

pub returns-in_ok-all-in-None : goal.returns-in_ok-all-in-None
returns-in_ok-all-in-None c = rw c.in-None.is (all_kept (constant_at c.args.facts.now c.args.at.now) c.args.base.now c.in_ok-all-in-None.all.items c.in_ok-all-in-None.ensures.joined c.in_ok-all-in-None.ensures.same)

pub returns-in_ok-some-in-Some : goal.returns-in_ok-some-in-Some
returns-in_ok-some-in-Some c = rw c.in-Some.is c.in_ok-some-in-Some.ensures
